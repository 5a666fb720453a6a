-- `extent::northing_known` meets its contract. Assumes nothing.
use mathlib.Core.Path.{◌∙◌}
use Rattle.extent.specs.Extent.{northing_known}
use Rattle.extent.proofs.Points.{wide, wide_fits}
use Rattle.extent.proofs.northing_known.Goals as goal

pub returns : goal.returns
unfolding northing_known
returns c = c.within.ensures ∙ rw (wide c.ranges.y).is

pub overflow_cast-y : goal.overflow_cast-y
overflow_cast-y c = wide_fits c.ranges.y
