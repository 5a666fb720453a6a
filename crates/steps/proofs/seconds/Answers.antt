-- `steps::seconds` meets its contract. Assumes nothing.
use native.Mathlib.Omega.{arith}
use Prim.Native.Nat.{◌*◌, ◌≤◌}
use Rattle.steps.specs.Steps.{seconds, seconds_half}
use Rattle.rounding.specs.Ranges.{most_step, most_gap}
use Rattle.rounding.proofs.Sizes.{product_most}
use Rattle.steps.proofs.seconds.Goals as goal
use Rattle.steps.proofs.seconds.Goals.{Start}

product_small : (c : Start) → c.args.span * c.args.past ≤ most_step * most_gap
product_small c = product_most most_step most_gap c.requires.0 c.requires.1

pub returns : goal.returns
unfolding seconds seconds_half
returns c = c.nearest_size.ensures

pub overflow_mul-span : goal.overflow_mul-span
overflow_mul-span c = omega (arith, product_small c)

pub nearest_size-requires : goal.nearest_size-requires
nearest_size-requires c = (omega (arith, product_small c), omega arith, omega arith)
