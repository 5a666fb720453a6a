-- `convert::geographic_to_plane` meets its contract. Assumes nothing.
use mathlib.Core.Path.{◌≡◌, ◌∙◌}
use mir.Syntax.{w32}
use mir.Val.{to_z, of_z}
use Rattle.refusals.proofs.Numbers.{number-some}
use Rattle.refusals.proofs.Handed.{handed}
use Rattle.forward.specs.Forward.{plane_told, forward_of}
use Rattle.convert.proofs.Checked.{forward-passes, forward-refused}
use Rattle.rounding.proofs.Bits.{both-same}
use borrow.Author.Rules.{rules}
use Rattle.convert.proofs.geographic_to_plane.Goals as goal

pub returns-in_err-passing : goal.returns-in_err-passing
returns-in_err-passing c = handed plane_told _ _ c.from_residual.ensures.1 ∙ forward-refused _ _ _ _ c.in_err-passing.ensures (number-some _)

pub returns : goal.returns
returns c =
    let one : to_z w32 (of_z w32 c.args.latitude) ≡ c.args.latitude = search rules in
    let two : to_z w32 (of_z w32 c.args.longitude) ≡ c.args.longitude = search rules in
    let same = c.in_ok-passing.ensures in
    forward-passes _ _ _ _ (rw same at c.in_ok-passing.field-0.known.passes) (rw same at (c.forward.ensures ∙ both-same (forward_of _) one two))
