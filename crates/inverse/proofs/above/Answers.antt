-- `inverse::above` meets its contract. Assumes nothing.
use Rattle.rounding.proofs.Order.{difference_non_neg}
use Rattle.rounding.proofs.Holds.{held, difference, difference_fits, unsigned_fits, unsigned}
use Rattle.inverse.proofs.above.Goals as goal

pub returns : goal.returns
returns c = unsigned (difference (held c.ranges.high c.requires.1) (held c.ranges.low c.requires.0) tt)

pub overflow_sub-result : goal.overflow_sub-result
overflow_sub-result c = difference_fits (held c.ranges.high c.requires.1) (held c.ranges.low c.requires.0) tt

pub overflow_cast-result : goal.overflow_cast-result
overflow_cast-result c = unsigned_fits (difference (held c.ranges.high c.requires.1) (held c.ranges.low c.requires.0) tt) (difference_non_neg c.args.low c.args.high c.requires.2) tt
