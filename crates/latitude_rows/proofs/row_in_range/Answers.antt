-- `latitude_rows::row_in_range` meets its contract. Assumes nothing.
use mathlib.Core.Path.{◌≡◌, ◌∙◌}
use lib.IntN.{pos}
use mir.Syntax.{w32}
use mir.Val.{to_z, of_z}
use Rattle.refusals.specs.Tests.{in_range}
use Rattle.latitude_rows.specs.Rows.{row_in_range}
use borrow.Author.Rules.{rules}
use Rattle.latitude_rows.proofs.row_in_range.Goals as goal

pub returns : goal.returns
unfolding row_in_range
returns c =
    let row = c.args.row in
    let read : to_z w32 (of_z w32 row.minute) ≡ row.minute = search rules in
    let minute : c.in_range.result ≡ in_range (pos 0) row.minute (pos 5_400) = c.in_range.ensures ∙ rw read in
    rw (minute, c.figures_in_range.ensures)
