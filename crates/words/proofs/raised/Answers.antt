-- `words::raised` meets its contract. Assumes nothing.
use mathlib.Core.Path.{◌≡◌, sym, ap, ◌∙◌}
use native.Mathlib.Omega.{arith}
use mir.Facts.{to_z-of_z}
use mir.Syntax.{w32}
use mir.Val.{of_z}
use Rattle.words.specs.Words.{signed32, bits32}
use Rattle.words.proofs.TwosComplement.{bits32_is, raised_lowered, signed32-bits32}
use Rattle.words.proofs.raised.Goals as goal

pub returns : goal.returns
returns c =
    let v = c.args.v in
    let n = c.cast_unsigned.result in
    let bits : n ≡ bits32 v = c.cast_unsigned.ensures ∙ ap (of_z w32) (to_z-of_z c.ranges.v) ∙ sym (bits32_is v) in
    (raised_lowered n c.cast_unsigned.type_inv ∙ ap signed32 bits ∙ signed32-bits32 v c.ranges.v, omega arith)
