-- `convert::convergence_and_scale` meets its contract. Assumes nothing.
use mathlib.Core.Path.{◌≡◌, ◌∙◌}
use mir.Syntax.{w32}
use mir.Val.{to_z, of_z}
use Rattle.refusals.proofs.Numbers.{number-some}
use Rattle.refusals.proofs.Handed.{handed}
use Rattle.convergence.specs.Grid.{grid_told, grid_of}
use Rattle.convert.proofs.Checked.{grid-passes, grid-refused}
use Rattle.rounding.proofs.Bits.{both-same}
use borrow.Author.Rules.{rules}
use Rattle.convert.proofs.convergence_and_scale.Goals as goal

pub returns-in_err-passing : goal.returns-in_err-passing
returns-in_err-passing c = handed grid_told _ _ c.from_residual.ensures.1 ∙ grid-refused _ _ _ _ c.in_err-passing.ensures (number-some _)

pub returns : goal.returns
returns c =
    let one : to_z w32 (of_z w32 c.args.x) ≡ c.args.x = search rules in
    let two : to_z w32 (of_z w32 c.args.y) ≡ c.args.y = search rules in
    let same = c.in_ok-passing.ensures in
    grid-passes _ _ _ _ (rw same at c.in_ok-passing.field-0.known.passes) (rw same at (c.convergence.ensures ∙ both-same (grid_of _) one two))
