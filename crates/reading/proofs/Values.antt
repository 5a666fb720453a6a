-- A value between rows keeps the bounds of its rows, whatever the step; and where the rows rise by at most one a unit of the offset, so does it. Assumes nothing.
use mathlib.Core.Path.{◌≡◌, refl, sym, ap, ◌∙◌}
use Prim.Native.Nat.{ℕ, zero, suc, ◌+◌, ◌*◌, ◌-◌, ◌/◌, ◌%◌, ◌<◌, ◌≤◌}
use native.Mathlib.Nat.{le_trans, le_of_lt, mod-lt, mul-le-mul_right, mul_comm, mul_assoc, mul-add, add-mul, div-add-mod'}
use native.Mathlib.Omega.{arith}
use lib.IntN.{ℤ, pos, nat_abs}
use Rattle.rounding.specs.Nearest.{nearest_size}
use Rattle.rounding.specs.Between.{between}
use Rattle.rounding.proofs.Sizes.{Size}
use Rattle.rounding.proofs.Rounding.{nearest_size-most}
use Rattle.rounding.proofs.Interval.{at_row, between-most, between_sizes, sizes_most, sizes_least, size_between}
use Rattle.reading.specs.Tables.{past_row, value_at}
use Rattle.reading.proofs.Within.{this_there, next_there}

-- ---- between two rows, at t from 0 to below the step
module _ (t step : ℕ) (below : t < step) where
  between_size : (u w : ℤ) (low high : ℕ) → Size low u high → Size low w high → Size low (between u w t step) high
  between_size u w low high p q =
      let e : between u w t step ≡ pos (nearest_size (nat_abs u * (step - t) + nat_abs w * t) step) =
      rw (p.is, q.is) (between_sizes t step (le_of_lt below) (nat_abs u) (nat_abs w)) in
      rw e (record {
        is = refl;
        low = sizes_least t step (le_of_lt below) (omega arith) (nat_abs u) (nat_abs w) low p.low q.low;
        high = sizes_most t step (le_of_lt below) (omega arith) (nat_abs u) (nat_abs w) high p.high q.high;
      })

-- rows at most k·i and k·(i + 1) in size, weighed, come to at most k·(i·step + t)
slope : (k i t step u w : ℕ) → t ≤ step → u ≤ k * i → w ≤ k * (i + 1) → u * (step - t) + w * t ≤ k * (i * step + t)
slope k i t step u w l p q =
    let d = step - t in
    let parts : i * d + (i + 1) * t ≡ i * step + t =
    let whole : i * step ≡ i * d + i * t = ap (λ (n : ℕ). i * n) (omega arith) ∙ mul-add i d t in
    omega (arith, whole, add-mul i 1 t) in
    let sum : k * (i * d) + k * ((i + 1) * t) ≡ k * (i * step + t) = sym (mul-add k (i * d) ((i + 1) * t)) ∙ ap (λ (n : ℕ). k * n) parts in
    omega (arith, sum, mul-le-mul_right d p, mul-le-mul_right t q, mul_assoc k i d, mul_assoc k (i + 1) t)

-- ---- in a column, at an offset from row 0 to the last row
module _ (f : ℕ → ℤ) (n step offset : ℕ) (positive : 0 < step) (some : 0 < n) (most : offset ≤ (n - 1) * step) where
  -- what holds at each row and between two neighbours holds at the offset
  by_rows : (P : ℤ → Type 0)
      → ((i : ℕ) → i < n → offset ≡ i * step → P (f i))
      → ((i t : ℕ) → i + 1 < n → t < step → offset ≡ i * step + t → P (between (f i) (f (i + 1)) t step))
      → P (value_at f step offset)
  unfolding value_at past_row
  by_rows P row past = pick (offset % step) refl
    where
      pick : (t : ℕ) → offset % step ≡ t → P (between (f (offset / step)) (f (offset / step + 1)) (offset % step) step)
      pick zero e =
          rw (e, at_row (f (offset / step)) (f (offset / step + 1)) step positive)
          (row (offset / step) (this_there n step offset positive some most) (omega (arith, div-add-mod' offset step)))
      pick (suc t) e =
          past (offset / step) (offset % step) (next_there n step offset positive some most (omega arith)) (mod-lt offset positive) (omega (arith, div-add-mod' offset step))

  -- rows at most k in size give a value at most k in size
  pub value_most : (k : ℕ) → ((i : ℕ) → i < n → nat_abs (f i) ≤ k) → nat_abs (value_at f step offset) ≤ k
  value_most k rows =
      by_rows (λ v. nat_abs v ≤ k) (λ i h e. rows i h)
      (λ i t h l e. between-most t step (le_of_lt l) positive (f i) (f (i + 1)) k (rows i (omega arith)) (rows (i + 1) h))

  -- rows that are sizes from low to high give a size from low to high
  pub value_size : (low high : ℕ) → ((i : ℕ) → i < n → Size low (f i) high) → Size low (value_at f step offset) high
  value_size low high rows =
      by_rows (λ v. Size low v high) (λ i h e. rows i h)
      (λ i t h l e. between_size t step l (f i) (f (i + 1)) low high (rows i (omega arith)) (rows (i + 1) h))

  -- rows at most k·i in size, for k at most the step, give a value at most the offset in size
  pub value_slope : (k : ℕ) → k ≤ step → ((i : ℕ) → i < n → nat_abs (f i) ≤ k * i) → nat_abs (value_at f step offset) ≤ offset
  value_slope k small rows = by_rows (λ v. nat_abs v ≤ offset) at_it past_it
    where
      at_it : (i : ℕ) → i < n → offset ≡ i * step → nat_abs (f i) ≤ offset
      at_it i h e = le_trans (rows i h) (omega (arith, e, mul-le-mul_right i small, mul_comm step i))

      past_it : (i t : ℕ) → i + 1 < n → t < step → offset ≡ i * step + t → nat_abs (between (f i) (f (i + 1)) t step) ≤ offset
      past_it i t h l e =
          le_trans (size_between t step (le_of_lt l) positive (f i) (f (i + 1)))
          (nearest_size-most (nat_abs (f i) * (step - t) + nat_abs (f (i + 1)) * t) step offset positive
          (le_trans (slope k i t step (nat_abs (f i)) (nat_abs (f (i + 1))) (le_of_lt l) (rows i (omega arith)) (rows (i + 1) h))
          (rw (← e) (omega (arith, mul-le-mul_right offset small, mul_comm step offset)))))
