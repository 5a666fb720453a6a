-- `writing::put_count` meets its contract. Assumes nothing.
use mathlib.Core.Path.{ap, ◌∙◌}
use native.Mathlib.Omega.{arith}
use mir.Syntax.{w32}
use mir.ValLaws.{to_z_pos}
use Rattle.words.specs.Words.{put_word}
use Rattle.writing.proofs.put_count.Goals as goal

pub returns : goal.returns
returns c =
    c.put_word.ensures ∙ ap (put_word c.args.s.now c.args.i) (to_z_pos w32 c.args.n (omega arith))
