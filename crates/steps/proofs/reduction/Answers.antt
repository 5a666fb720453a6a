-- `steps::reduction` meets its contract: `wide_nearest`, with 10¹⁵ split at LOW, turns the definition into what the code works. Assumes nothing.
use borrow.Author.Rules.{rules, sfits_of}
use native.Mathlib.Omega.{arith}
use native.Mathlib.Nat.{le_trans}
use lib.Dec.{T, eqb, lit<, lit≤}
use mathlib.Core.Path.{◌≡◌, sym, ap, ◌∙◌}
use mathlib.Core.Bool.{Bool, ◌&&◌}
use Prim.Native.Nat.{ℕ, ◌+◌, ◌*◌, ◌/◌, ◌%◌, ◌≤◌}
use lib.IntN.{ℤ, pos, ◌+ℤ◌, ◌*ℤ◌}
use lib.Signed.{non_neg}
use mir.Syntax.{w64}
use mir.Val.{to_z, of_z}
use mir.Facts.{to_z-of_z}
use Rattle.steps.specs.Steps.{reduction, reduction_half}
use Rattle.steps.specs.Wide.{toward_zero}
use Rattle.rounding.specs.Nearest.{nearest, on_half}
use Rattle.rounding.specs.Ranges.{most_p, most_x, most_d}
use Rattle.rounding.proofs.Sizes.{product_most}
use Rattle.rounding.proofs.Holds.{Holds, held, held_size, held_literal, sum_fits, sum, product_fits, product, size_most, unsigned_fits, not_negative}
use Rattle.rounding.proofs.Rounding.{nearest_size_le, rounded, rounded_size}
use Rattle.rounding.proofs.Halves.{marked, marked_size}
use Rattle.steps.proofs.Splitting.{toward_size, size_toward, wide_nearest, wide_half}
use Rattle.steps.proofs.reduction.Goals as goal
use Rattle.steps.proofs.reduction.Goals.{After-nearest_size-size, After-toward_zero, Else-t-lt0, Start}

-- the parts of P·x², as the code has them
abbrev low : Start → ℕ
low c = c.args.p * (c.args.x * c.args.x % 16_384)

abbrev whole : Start → ℕ
whole c = c.args.p * (c.args.x * c.args.x / 16_384) + low c / 16_384

module _ (c : Start) where
  square_small : c.args.x * c.args.x ≤ most_x * most_x
  square_small = product_most most_x most_x c.requires.1 c.requires.1

  low_small : low c ≤ most_p * 16_384
  low_small = product_most most_p 16_384 c.requires.0 (omega arith)

  high_small : c.args.p * (c.args.x * c.args.x / 16_384) ≤ most_p * 494_384_765_625
  high_small = product_most most_p 494_384_765_625 c.requires.0 (omega (arith, square_small))

  whole_held : Holds w64 (whole c) (pos (whole c)) 494_384_765_626_000_000
  whole_held = held_size w64 (omega (arith, high_small, low_small)) tt

  d : Holds w64 (of_z w64 c.args.d) c.args.d most_d
  d = held c.ranges.d c.requires.2

  high : Holds w64 61_035_156_250 (pos 61_035_156_250) 61_035_156_250
  high = held_literal w64 61_035_156_250 tt

  -- the product and d·10¹⁵, over LOW
  abbrev t : ℤ
  t = pos (whole c) +ℤ c.args.d *ℤ pos 61_035_156_250

  t_held : Holds w64 (of_z w64 (to_z w64 (whole c) +ℤ to_z w64 (of_z w64 (to_z w64 (of_z w64 c.args.d) *ℤ to_z w64 61_035_156_250)))) t 494_390_869_141_625_000
  t_held = sum whole_held (product d high tt) tt

  -- what is rounded is what the definition rounds
  value_is : nearest (toward_zero t (low c % 16_384)) 61_035_156_250 ≡ reduction c.args.p c.args.x c.args.d
  unfolding reduction
  value_is = sym (wide_nearest c.args.p (c.args.x * c.args.x) 16_384 30_517_578_125 c.args.d (lit< tt) (lit< tt))

  half_is : on_half (toward_zero t (low c % 16_384)) 61_035_156_250 && eqb (low c % 16_384) 0 ≡ reduction_half c.args.p c.args.x c.args.d
  unfolding reduction_half
  half_is = sym (wide_half c.args.p (c.args.x * c.args.x) 16_384 30_517_578_125 c.args.d (lit< tt) (lit< tt))

pub overflow_mul-square : goal.overflow_mul-square
overflow_mul-square c = omega (arith, square_small c)

pub overflow_mul-low : goal.overflow_mul-low
overflow_mul-low c = omega (arith, low_small c)

pub overflow_mul-whole : goal.overflow_mul-whole
overflow_mul-whole c = omega (arith, high_small c)

pub overflow_add-whole : goal.overflow_add-whole
overflow_add-whole c = omega (arith, high_small c, low_small c)

pub overflow_cast-t : goal.overflow_cast-t
overflow_cast-t c = omega (arith, high_small c, low_small c)

pub overflow_mul-t : goal.overflow_mul-t
overflow_mul-t c = product_fits (d c) (high c) tt

pub overflow_add-t : goal.overflow_add-t
overflow_add-t c = sum_fits (whole_held c) (product (d c) (high c) tt) tt

-- ---- below zero
-- what `toward_zero` answered
dropped : (c : After-toward_zero) → Holds w64 (of_z w64 c.toward_zero.result) (toward_zero (t c.before.before) (low c.before.before % 16_384)) 494_390_869_141_625_000
dropped c =
    let b = c.before.before in
    let e = c.toward_zero.ensures ∙ ap (λ (z : ℤ). toward_zero z (low b % 16_384)) (t_held b).is in
    let k = le_trans (size_toward (t b) (low b % 16_384)) (t_held b).size in
    record { is = to_z-of_z {w = w64} (sfits_of {w = w64} c.toward_zero.type_inv) ∙ e; size = k }

pub toward_zero-requires : goal.toward_zero-requires
toward_zero-requires c = size_most (t_held c.before) tt

pub nearest-r-requires : goal.nearest-r-requires
nearest-r-requires c = (size_most (dropped c) tt, lit< tt, lit≤ tt)

pub returns-then-t-lt0 : goal.returns-then-t-lt0
returns-then-t-lt0 c =
    let worked = c.before.before in
    let b = worked.before.before.before in
    let value : to_z w64 (of_z w64 worked.nearest-r.result.value) ≡ worked.nearest-r.result.value = search rules in (
      value ∙ rounded 61_035_156_250 (dropped worked.before) worked.nearest-r.ensures.0 ∙ value_is b,
      ap (λ (h : Bool). h && eqb (low b % 16_384) 0) (marked 61_035_156_250 (dropped worked.before) worked.nearest-r.ensures.1) ∙ half_is b,
    )

-- ---- not below zero
not_below : (c : Else-t-lt0) → T (non_neg (t c.before))
not_below c = not_negative (t_held c.before) c.if-t-lt0.false

nothing_dropped : (c : Else-t-lt0) → toward_zero (t c.before) (low c.before % 16_384) ≡ t c.before
nothing_dropped c = toward_size (t c.before) (low c.before % 16_384) (not_below c)

pub overflow_cast-t-3 : goal.overflow_cast-t-3
overflow_cast-t-3 c = unsigned_fits (t_held c.before) (not_below c) tt

pub nearest_size-size-requires : goal.nearest_size-size-requires
nearest_size-size-requires c = (size_most (t_held c.before) tt, lit< tt, lit≤ tt)

-- the size that `nearest_size` answered
answered : (c : After-nearest_size-size) → Holds w64 c.nearest_size-size.result.value (pos c.nearest_size-size.result.value) 494_390_869_141_625_000
answered c = held_size w64 (rw c.nearest_size-size.ensures.0 (le_trans (nearest_size_le _ 61_035_156_250 (lit< tt)) (size_most (t_held c.before.before) tt))) tt

pub overflow_cast-result : goal.overflow_cast-result
overflow_cast-result c = record { sfits = omega (arith, (answered c.before).size) }

pub returns : goal.returns
returns c =
    let worked = c.before.before in
    let b = worked.before.before in
    let same = sym (nothing_dropped worked.before) in (
      (answered worked).is
          ∙ rounded_size 61_035_156_250 (t_held b) (not_below worked.before) worked.nearest_size-size.ensures.0
          ∙ ap (λ (z : ℤ). nearest z 61_035_156_250) same
          ∙ value_is b,
      ap (λ (h : Bool). h && eqb (low b % 16_384) 0)
          (marked_size 61_035_156_250 (t_held b) worked.nearest_size-size.ensures.1 ∙ ap (λ (z : ℤ). on_half z 61_035_156_250) same)
          ∙ half_is b,
    )
