-- `small_rows::longitude_row` meets its contract. Assumes nothing.
use Rattle.refusals.proofs.Ladders.{stop, go}
use Rattle.small_rows.specs.SmallRows.{longitude_row_fault}
use Rattle.small_rows.proofs.AsGiven.{ranged, zeroed, risen}
use Rattle.small_rows.proofs.longitude_row.Goals as goal

pub returns-then-not-in_range : goal.returns-then-not-in_range
unfolding longitude_row_fault
returns-then-not-in_range c = search (stop, ranged)

pub returns-then-not-in_range-2 : goal.returns-then-not-in_range-2
unfolding longitude_row_fault
returns-then-not-in_range-2 c = search (stop, go, ranged)

pub returns-then-not-zero_where : goal.returns-then-not-zero_where
unfolding longitude_row_fault
returns-then-not-zero_where c = search (stop, go, ranged, zeroed)

pub returns-then-not-zero_where-2 : goal.returns-then-not-zero_where-2
unfolding longitude_row_fault
returns-then-not-zero_where-2 c = search (stop, go, ranged, zeroed) depth 6 fits 2000

pub returns-then-not-last-rises : goal.returns-then-not-last-rises
unfolding longitude_row_fault
returns-then-not-last-rises c = search (stop, go, ranged, zeroed, risen) depth 6 fits 2000

pub returns : goal.returns
unfolding longitude_row_fault
returns c = search (go, ranged, zeroed, risen) depth 6 fits 2000
