-- `convert::plane_to_geographic` meets its contract. Assumes nothing.
use mathlib.Core.Path.{◌≡◌, ◌∙◌}
use mir.Syntax.{w32}
use mir.Val.{to_z, of_z}
use Rattle.refusals.proofs.Numbers.{number-some}
use Rattle.refusals.proofs.Handed.{handed}
use Rattle.inverse.specs.Inverse.{geographic_told, inverse_of}
use Rattle.convert.proofs.Checked.{inverse-passes, inverse-refused}
use Rattle.rounding.proofs.Bits.{both-same}
use borrow.Author.Rules.{rules}
use Rattle.convert.proofs.plane_to_geographic.Goals as goal

pub returns-in_err-passing : goal.returns-in_err-passing
returns-in_err-passing c = handed geographic_told _ _ c.from_residual.ensures.1 ∙ inverse-refused _ _ _ _ c.in_err-passing.ensures (number-some _)

pub returns : goal.returns
returns c =
    let one : to_z w32 (of_z w32 c.args.x) ≡ c.args.x = search rules in
    let two : to_z w32 (of_z w32 c.args.y) ≡ c.args.y = search rules in
    let same = c.in_ok-passing.ensures in
    inverse-passes _ _ _ _ (rw same at c.in_ok-passing.field-0.known.passes) (rw same at (c.inverse.ensures ∙ both-same (inverse_of _) one two))
