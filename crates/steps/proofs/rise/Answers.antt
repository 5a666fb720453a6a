-- `steps::rise` meets its contract. Assumes nothing.
use native.Mathlib.Omega.{arith}
use lib.Dec.{lit<, lit≤}
use Prim.Native.Nat.{◌*◌, ◌≤◌}
use lib.IntN.{pos}
use mir.Syntax.{w64}
use mir.Val.{of_z}
use Rattle.steps.specs.Steps.{rise, rise_half}
use Rattle.rounding.specs.Ranges.{most_v, most_q, most_c}
use Rattle.rounding.proofs.Sizes.{product_most}
use Rattle.rounding.proofs.Holds.{Holds, held, held_size, held_literal, sum_fits, sum, product_fits, product, size_most}
use Rattle.rounding.proofs.Rounding.{rounded}
use Rattle.rounding.proofs.Halves.{marked}
use Rattle.steps.proofs.rise.Goals as goal
use Rattle.steps.proofs.rise.Goals.{Start}

module _ (c : Start) where
  vq_small : c.args.v * c.args.q ≤ most_v * most_q
  vq_small = product_most most_v most_q c.requires.0 c.requires.1

  vq : Holds w64 (c.args.v * c.args.q) (pos (c.args.v * c.args.q)) (most_v * most_q)
  vq = held_size w64 vq_small tt

  figure_c : Holds w64 (of_z w64 c.args.c) c.args.c most_c
  figure_c = held c.ranges.c c.requires.2

  million : Holds w64 1_000_000 (pos 1_000_000) 1_000_000
  million = held_literal w64 1_000_000 tt

pub returns : goal.returns
unfolding rise rise_half
returns c =
    let b = c.before in
    let whole = sum (vq b) (product (figure_c b) (million b) tt) tt in
    (rounded 10_000_000 whole c.nearest.ensures.0, marked 10_000_000 whole c.nearest.ensures.1)

pub overflow_mul-v : goal.overflow_mul-v
overflow_mul-v c = omega (arith, vq_small c)

pub overflow_cast-v : goal.overflow_cast-v
overflow_cast-v c = omega (arith, vq_small c)

pub overflow_mul-c : goal.overflow_mul-c
overflow_mul-c c = product_fits (figure_c c) (million c) tt

pub overflow_add-v : goal.overflow_add-v
overflow_add-v c = sum_fits (vq c) (product (figure_c c) (million c) tt) tt

pub nearest-requires : goal.nearest-requires
nearest-requires c = (size_most (sum (vq c) (product (figure_c c) (million c) tt) tt) tt, lit< tt, lit≤ tt)
