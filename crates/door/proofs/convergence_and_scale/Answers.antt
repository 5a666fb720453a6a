-- `door::convergence_and_scale` meets its contract: 15 before the sheet, and after it what the conversion answers. Assumes nothing.
use mathlib.Core.Path.{◌≡◌, sym}
use mir.Syntax.{w32}
use mir.Val.{to_z, of_z}
use borrow.Author.Rules.{rules}
use Rattle.convert.specs.Conversions.{convergence_and_scale}
use Rattle.door.specs.Door.{grid_answer}
use Rattle.door.proofs.Ways.{before, after}
use Rattle.door.proofs.convergence_and_scale.Goals as goal

pub returns-in_default : goal.returns-in_default
returns-in_default c = before _ _ (sym c.in_default.ensures)

pub returns : goal.returns
returns c =
    let a : to_z w32 (of_z w32 c.in-Some.x) ≡ c.in-Some.x = search rules in
    let b : to_z w32 (of_z w32 c.in-Some.y) ≡ c.in-Some.y = search rules in
    after (convergence_and_scale _) grid_answer _ _ (sym c.in-Some.ensures) a b c.convergence_and_scale.ensures c.grid_counts.ensures
