-- `extent::l_of` meets its contract. Assumes nothing.
use Rattle.rounding.proofs.Holds.{difference, difference_fits}
use Rattle.tables.proofs.Origins.{central_held}
use Rattle.extent.specs.Extent.{l_of}
use Rattle.extent.proofs.Points.{wide, wide_fits, answered}
use Rattle.extent.proofs.l_of.Goals as goal

pub returns : goal.returns
unfolding l_of
returns c =
    answered (difference (central_held _ c.args.sheet.known.passes _ c.args.sheet.measured) (wide c.ranges.longitude) tt)

pub overflow_cast-result : goal.overflow_cast-result
overflow_cast-result c = wide_fits c.ranges.longitude

pub overflow_sub-result : goal.overflow_sub-result
overflow_sub-result c =
    difference_fits (central_held _ c.args.sheet.known.passes _ c.args.sheet.measured) (wide c.ranges.longitude) tt
