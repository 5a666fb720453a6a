-- `steps::size_of_l` meets its contract. Assumes nothing.
use native.Mathlib.Omega.{arith}
use Prim.Native.Nat.{ℕ, ◌+◌, ◌*◌}
use lib.Dec.{T}
use lib.IntN.{pos, ◌-ℤ◌, ◌*ℤ◌}
use lib.Signed.{non_neg}
use mir.Syntax.{w64}
use mir.Val.{to_z, of_z}
use Rattle.steps.specs.Steps.{size_of_l, size_of_l_half}
use Rattle.rounding.specs.Ranges.{most_x, most_a, most_b}
use Rattle.rounding.proofs.Sizes.{times_non_neg}
use Rattle.rounding.proofs.Holds.{Holds, held, held_size, held_literal, difference_fits, difference, product_fits, product, size_most, unsigned_fits}
use Rattle.rounding.proofs.Rounding.{rounded_size}
use Rattle.rounding.proofs.Halves.{marked_size}
use Rattle.steps.proofs.size_of_l.Goals as goal
use Rattle.steps.proofs.size_of_l.Goals.{Start}

module _ (c : Start) where
  x : Holds w64 (c.args.x * 10_000) (pos (c.args.x * 10_000)) (most_x * 10_000)
  x = held_size w64 (omega arith) tt

  a : Holds w64 (of_z w64 c.args.a) c.args.a most_a
  a = held c.ranges.a c.requires.1

  b : Holds w64 (of_z w64 c.args.b) c.args.b most_b
  b = held c.ranges.b c.requires.2

  thousand : Holds w64 1_000 (pos 1_000) 1_000
  thousand = held_literal w64 1_000 tt

  abbrev ab : ℕ
  ab = of_z w64 (to_z w64 (of_z w64 c.args.a) *ℤ to_z w64 (of_z w64 c.args.b))

  whole : Holds w64 (of_z w64 (to_z w64 (of_z w64 (to_z w64 (c.args.x * 10_000) -ℤ to_z w64 ab)) *ℤ to_z w64 1_000)) ((pos (c.args.x * 10_000) -ℤ c.args.a *ℤ c.args.b) *ℤ pos 1_000) ((most_x * 10_000 + most_a * most_b) * 1_000)
  whole = product (difference x (product a b tt) tt) thousand tt

  not_negative : T (non_neg ((pos (c.args.x * 10_000) -ℤ c.args.a *ℤ c.args.b) *ℤ pos 1_000))
  not_negative = times_non_neg (pos (c.args.x * 10_000) -ℤ c.args.a *ℤ c.args.b) 1_000 c.requires.5

pub returns : goal.returns
unfolding size_of_l size_of_l_half
returns c =
    let d = c.before in
    (rounded_size d.args.h (whole d) (not_negative d) c.nearest_size.ensures.0, marked_size d.args.h (whole d) c.nearest_size.ensures.1)

pub overflow_mul-rest-2 : goal.overflow_mul-rest-2
overflow_mul-rest-2 c = product_fits (a c) (b c) tt

pub overflow_sub-rest : goal.overflow_sub-rest
overflow_sub-rest c = difference_fits (x c) (product (a c) (b c) tt) tt

pub overflow_mul-rest-3 : goal.overflow_mul-rest-3
overflow_mul-rest-3 c = product_fits (difference (x c) (product (a c) (b c) tt) tt) (thousand c) tt

pub overflow_cast-rest-2 : goal.overflow_cast-rest-2
overflow_cast-rest-2 c = unsigned_fits (whole c) (not_negative c) tt

pub nearest_size-requires : goal.nearest_size-requires
nearest_size-requires c = (size_most (whole c) tt, c.requires.3, omega arith)
