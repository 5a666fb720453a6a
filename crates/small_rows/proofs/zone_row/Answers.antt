-- `small_rows::zone_row` meets its contract. Assumes nothing.
use Rattle.refusals.proofs.Ladders.{stop, go}
use Rattle.small_rows.specs.SmallRows.{zone_row_fault}
use Rattle.small_rows.proofs.AsGiven.{ranged}
use Rattle.small_rows.proofs.zone_row.Goals as goal

pub returns-then-not-in_range : goal.returns-then-not-in_range
unfolding zone_row_fault
returns-then-not-in_range c = search (stop, ranged)

pub returns-then-not-in_range-2 : goal.returns-then-not-in_range-2
unfolding zone_row_fault
returns-then-not-in_range-2 c = search (stop, go, ranged)

pub returns : goal.returns
unfolding zone_row_fault
returns c = search (go, ranged)
