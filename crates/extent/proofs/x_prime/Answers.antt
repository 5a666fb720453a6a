-- `extent::x_prime` meets its contract. Assumes nothing.
use Rattle.rounding.proofs.Holds.{difference, difference_fits}
use Rattle.tables.proofs.Origins.{easting_held}
use Rattle.extent.specs.Extent.{x_prime}
use Rattle.extent.proofs.Points.{wide, wide_fits, answered}
use Rattle.extent.proofs.x_prime.Goals as goal

pub returns : goal.returns
unfolding x_prime
returns c =
    answered (difference (wide c.ranges.x) (easting_held _ c.args.sheet.known.passes _ c.args.sheet.measured) tt)

pub overflow_cast-result : goal.overflow_cast-result
overflow_cast-result c = wide_fits c.ranges.x

pub overflow_sub-result : goal.overflow_sub-result
overflow_sub-result c =
    difference_fits (wide c.ranges.x) (easting_held _ c.args.sheet.known.passes _ c.args.sheet.measured) tt
