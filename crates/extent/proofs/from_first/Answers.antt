-- `extent::from_first` meets its contract. Assumes nothing.
use Rattle.rounding.proofs.Holds.{difference, difference_fits}
use Rattle.tables.proofs.Origins.{first_held}
use Rattle.extent.specs.Extent.{from_first}
use Rattle.extent.proofs.Points.{wide, wide_fits}
use Rattle.extent.proofs.from_first.Goals as goal

pub returns : goal.returns
unfolding from_first
returns c =
    (difference (wide c.ranges.latitude) (first_held _ c.args.sheet.known.passes _ c.args.sheet.measured) tt).is

pub overflow_cast-result : goal.overflow_cast-result
overflow_cast-result c = wide_fits c.ranges.latitude

pub overflow_sub-result : goal.overflow_sub-result
overflow_sub-result c =
    difference_fits (wide c.ranges.latitude) (first_held _ c.args.sheet.known.passes _ c.args.sheet.measured) tt
