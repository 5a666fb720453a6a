-- `differing::differs_in` meets its contract. Assumes nothing.
use mathlib.Core.Path.{◌≡◌}
use mir.Syntax.{w32}
use mir.Val.{to_z, of_z}
use Rattle.differing.proofs.OneRow.{no_row, of_row}
use borrow.Author.Rules.{rules}
use Rattle.differing.proofs.differs_in.Goals as goal

pub returns-in-Some : goal.returns-in-Some
returns-in-Some c =
    let minute : to_z w32 (of_z w32 c.args.minute) ≡ c.args.minute = search rules in
    let row = rw minute at c.in-Some.ensures in
    of_row _ _ _ _ _ row.0 _ _ row.1 c.row_differs.ensures

pub returns-in-None : goal.returns-in-None
returns-in-None c =
    let minute : to_z w32 (of_z w32 c.args.minute) ≡ c.args.minute = search rules in
    no_row _ _ _ _ _ (rw minute at c.in-None.ensures)
