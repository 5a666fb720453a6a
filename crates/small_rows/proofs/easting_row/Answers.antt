-- `small_rows::easting_row` meets its contract. Assumes nothing.
use Rattle.refusals.proofs.Ladders.{stop, go}
use Rattle.small_rows.specs.SmallRows.{easting_row_fault}
use Rattle.small_rows.proofs.AsGiven.{ranged, zeroed}
use Rattle.small_rows.proofs.easting_row.Goals as goal

pub returns-then-not-in_range : goal.returns-then-not-in_range
unfolding easting_row_fault
returns-then-not-in_range c = search (stop, ranged)

pub returns-then-not-zero_where : goal.returns-then-not-zero_where
unfolding easting_row_fault
returns-then-not-zero_where c = search (stop, go, ranged, zeroed)

pub returns : goal.returns
unfolding easting_row_fault
returns c = search (go, ranged, zeroed)
