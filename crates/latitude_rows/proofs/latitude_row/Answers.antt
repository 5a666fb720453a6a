-- `latitude_rows::latitude_row` meets its contract. Assumes nothing.
use mathlib.Core.Path.{◌≡◌, ◌∙◌}
use lib.IntN.{pos}
use mir.Syntax.{w32}
use mir.Val.{to_z, of_z}
use Rattle.refusals.proofs.Ladders.{stop, go}
use Rattle.rules.specs.Limits.{rises}
use Rattle.latitude_rows.specs.Rows.{pair_fault}
use borrow.Author.Rules.{rules}
use Rattle.latitude_rows.proofs.latitude_row.Goals as goal
use Rattle.latitude_rows.proofs.latitude_row.Goals.{After-rises}

-- the minute's rise, of the minutes themselves
minute_rises : (c : After-rises) → let args = c.args in c.rises.result ≡ rises args.row.minute args.next.minute (pos 1) (pos 1)
minute_rises c =
    let args = c.args in
    let this : to_z w32 (of_z w32 args.row.minute) ≡ args.row.minute = search rules in
    let next : to_z w32 (of_z w32 args.next.minute) ≡ args.next.minute = search rules in
    c.rises.ensures ∙ rw (this, next)

pub returns-then-not-row_in_range : goal.returns-then-not-row_in_range
unfolding pair_fault
returns-then-not-row_in_range c = search stop

pub returns-then-not-rises : goal.returns-then-not-rises
unfolding pair_fault
returns-then-not-rises c = search (stop, go, minute_rises (goal.at.returns-then-not-rises c).After-rises)

pub returns-then-not-within_bounds : goal.returns-then-not-within_bounds
unfolding pair_fault
returns-then-not-within_bounds c = search (stop, go, minute_rises (goal.at.returns-then-not-within_bounds c).After-rises)

pub returns-then-not-are_differences : goal.returns-then-not-are_differences
unfolding pair_fault
returns-then-not-are_differences c = search (stop, go, minute_rises (goal.at.returns-then-not-are_differences c).After-rises)

pub returns : goal.returns
unfolding pair_fault
returns c = search (go, minute_rises (goal.at.returns c).After-rises)
