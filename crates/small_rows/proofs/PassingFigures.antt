-- What the figures of a small body whose rows have no fault are: 0 in row 0 where they have to be, and each b at most 10 units for each second of its place. Assumes nothing.
use mathlib.Core.Path.{◌≡◌, ap, ◌∙◌}
use mathlib.Core.Bool.{true}
use mathlib.Core.List.{List}
use Prim.Native.Nat.{ℕ, zero, suc, ◌+◌, ◌*◌, ◌<◌, ◌≤◌}
use native.Mathlib.Numerals.{add-one}
use native.Mathlib.Omega.{arith}
use lib.IntN.{ℤ, pos, nat_abs, ◌-ℤ◌, -ℤ-+ℤ_cancel}
use Rattle.rounding.proofs.Sizes.{size_sum}
use Rattle.rules.proofs.WhatPasses.{range_size, rises-most}
use Rattle.small_rows.specs.SmallRows.{zero_where, longitude_at}
use Rattle.small_rows.proofs.PassingRows.{LongitudeRow}

-- ---- "row 0 is 0"
pub first_zero : (x : ℤ) → zero_where true x ≡ true → x ≡ pos 0
unfolding zero_where
first_zero x e =
    let r = range_size 0 x 0 e in
    let none : nat_abs x ≡ 0 = omega (arith, r.high) in
    r.is ∙ ap pos none

-- ---- longitude: a step of 100″, so 1,000 units a row
module _ (b : List ℕ) (n : ℕ) (rows : (i : ℕ) → i < n → LongitudeRow b n i) where
  pub b_most : (i : ℕ) → i < n → nat_abs (longitude_at b i).b ≤ 1_000 * i
  b_most zero h = omega (arith, ap nat_abs (first_zero _ (rows 0 h).b_first))
  b_most (suc i) h =
      let step = rises-most 1_000 (longitude_at b i).b (longitude_at b (i + 1)).b ((rows i (omega arith)).b_next (omega arith)) in
      let whole = ap nat_abs (-ℤ-+ℤ_cancel (longitude_at b (i + 1)).b (longitude_at b i).b) in
      let sum = size_sum ((longitude_at b (i + 1)).b -ℤ (longitude_at b i).b) (longitude_at b i).b in
      rw (← add-one i) (omega (arith, whole, sum, step, b_most i (omega arith)))
