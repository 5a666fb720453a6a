-- `small_rows::zero_where` meets its contract. Assumes nothing.
use Rattle.small_rows.specs.SmallRows.{zero_where}
use Rattle.small_rows.proofs.AsGiven.{ranged, either}
use Rattle.small_rows.proofs.zero_where.Goals as goal

pub returns : goal.returns
unfolding zero_where
returns c = search (either, ranged)
