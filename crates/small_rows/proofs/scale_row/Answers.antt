-- `small_rows::scale_row` meets its contract. Assumes nothing.
use Rattle.refusals.proofs.Ladders.{stop, go}
use Rattle.small_rows.specs.SmallRows.{scale_row_fault}
use Rattle.small_rows.proofs.AsGiven.{ranged}
use Rattle.small_rows.proofs.scale_row.Goals as goal

pub returns-then-not-in_range : goal.returns-then-not-in_range
unfolding scale_row_fault
returns-then-not-in_range c = search (stop, ranged)

pub returns : goal.returns
unfolding scale_row_fault
returns c = search (go, ranged)
