-- `steps::q_of` meets its contract. Assumes nothing.
use native.Mathlib.Omega.{arith}
use lib.Dec.{lit<, lit≤}
use Prim.Native.Nat.{◌*◌, ◌≤◌}
use Rattle.steps.specs.Steps.{q_of, q_half}
use Rattle.rounding.specs.Ranges.{most_s}
use Rattle.rounding.proofs.Sizes.{product_most}
use Rattle.steps.proofs.q_of.Goals as goal
use Rattle.steps.proofs.q_of.Goals.{Start}

square_small : (c : Start) → c.args.s * c.args.s ≤ most_s * most_s
square_small c = product_most most_s most_s c.requires c.requires

pub returns : goal.returns
unfolding q_of q_half
returns c = c.nearest_size.ensures

pub overflow_mul-s : goal.overflow_mul-s
overflow_mul-s c = omega (arith, square_small c)

pub nearest_size-requires : goal.nearest_size-requires
nearest_size-requires c = (omega (arith, square_small c), lit< tt, lit≤ tt)
