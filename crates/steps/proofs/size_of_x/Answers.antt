-- `steps::size_of_x` meets its contract. Assumes nothing.
use Prim.Native.Nat.{ℕ, ◌+◌, ◌*◌, ◌≤◌}
use native.Mathlib.Omega.{arith}
use lib.Dec.{lit<, lit≤}
use lib.IntN.{pos, ◌+ℤ◌, ◌*ℤ◌}
use mir.Syntax.{w64}
use mir.Val.{to_z, of_z}
use Rattle.steps.specs.Steps.{size_of_x, size_of_x_half}
use Rattle.rounding.specs.Ranges.{most_h, most_s, most_a, most_b}
use Rattle.rounding.proofs.Sizes.{product_most}
use Rattle.rounding.proofs.Holds.{Holds, held, held_size, held_literal, sum_fits, sum, product_fits, product, size_most, unsigned_fits}
use Rattle.rounding.proofs.Rounding.{rounded_size}
use Rattle.rounding.proofs.Halves.{marked_size}
use Rattle.steps.proofs.size_of_x.Goals as goal
use Rattle.steps.proofs.size_of_x.Goals.{Start}

module _ (c : Start) where
  hs_small : c.args.h * c.args.s ≤ most_h * most_s
  hs_small = product_most most_h most_s c.requires.0 c.requires.1

  hs : Holds w64 (c.args.h * c.args.s) (pos (c.args.h * c.args.s)) (most_h * most_s)
  hs = held_size w64 hs_small tt

  a : Holds w64 (of_z w64 c.args.a) c.args.a most_a
  a = held c.ranges.a c.requires.2

  b : Holds w64 (of_z w64 c.args.b) c.args.b most_b
  b = held c.ranges.b c.requires.3

  thousand : Holds w64 1_000 (pos 1_000) 1_000
  thousand = held_literal w64 1_000 tt

  abbrev ab : ℕ
  ab = of_z w64 (to_z w64 (of_z w64 (to_z w64 (of_z w64 c.args.a) *ℤ to_z w64 (of_z w64 c.args.b))) *ℤ to_z w64 1_000)

  whole : Holds w64 (of_z w64 (to_z w64 (c.args.h * c.args.s) +ℤ to_z w64 ab)) (pos (c.args.h * c.args.s) +ℤ c.args.a *ℤ c.args.b *ℤ pos 1_000) (most_h * most_s + most_a * most_b * 1_000)
  whole = sum hs (product (product a b tt) thousand tt) tt

pub returns : goal.returns
unfolding size_of_x size_of_x_half
returns c =
    let b = c.before in
    (rounded_size 10_000_000 (whole b) b.requires.4 c.nearest_size.ensures.0, marked_size 10_000_000 (whole b) c.nearest_size.ensures.1)

pub overflow_mul-sum : goal.overflow_mul-sum
overflow_mul-sum c = omega (arith, hs_small c)

pub overflow_cast-sum : goal.overflow_cast-sum
overflow_cast-sum c = omega (arith, hs_small c)

pub overflow_mul-sum-2 : goal.overflow_mul-sum-2
overflow_mul-sum-2 c = product_fits (a c) (b c) tt

pub overflow_mul-sum-3 : goal.overflow_mul-sum-3
overflow_mul-sum-3 c = product_fits (product (a c) (b c) tt) (thousand c) tt

pub overflow_add-sum : goal.overflow_add-sum
overflow_add-sum c = sum_fits (hs c) (product (product (a c) (b c) tt) (thousand c) tt) tt

pub overflow_cast-sum-2 : goal.overflow_cast-sum-2
overflow_cast-sum-2 c = unsigned_fits (whole c) c.requires.4 tt

pub nearest_size-requires : goal.nearest_size-requires
nearest_size-requires c = (size_most (whole c) tt, lit< tt, lit≤ tt)
