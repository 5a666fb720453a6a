-- `decimal::number_of` meets its contract. Assumes nothing.
use mathlib.Core.Path.{◌≡◌, ◌∙◌}
use native.Mathlib.Omega.{arith}
use mir.Syntax.{w64}
use mir.Val.{to_z}
use Rattle.decimal.specs.Reading.{signed_value}
use Rattle.decimal.proofs.NumbersRead.{plus_value, minus_value, byte-most, no_number, a_number}
use Rattle.decimal.proofs.number_of.Goals as goal
use Rattle.decimal.proofs.number_of.Goals.{After-try_from, then-minus, else-minus}

signed_is : (c : After-try_from) → to_z w64 c.if-minus.signed-bits ≡ signed_value c.args.minus c.args.d.value
signed_is c = elim c.if-minus.branch [
  | then-minus w ↦ rw w.if-minus.true (w.signed-is ∙ minus_value c.args.d.value c.requires.1)
  | else-minus w ↦ rw w.if-minus.false (w.signed-is ∙ plus_value c.args.d.value c.requires.1)
]

pub returns-in_err-value : goal.returns-in_err-value
returns-in_err-value c =
    let s = (goal.at.returns-in_err-value c).After-try_from in
    rw c.from_residual.ensures (no_number c.args.minus c.args.d (to_z w64 c.if-minus.signed-bits) (signed_is s) c.try_from.result c.try_from.ensures c.in_err-value.ensures.value, tt)

pub returns : goal.returns
returns c =
    let s = (goal.at.returns c).After-try_from in
    (a_number c.args.minus c.args.d (to_z w64 c.if-minus.signed-bits) (signed_is s) c.try_from.result c.try_from.ensures _ _ c.in_ok-value.ensures.value c.from.ensures, omega (arith, c.from.ensures, byte-most c.args.minus))
