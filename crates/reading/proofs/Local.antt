-- A value and its half depend on its row and, past it, on the next, so that a change of row j moves no value at or below row j − 1 and none at or above row j + 1. Assumes nothing.
use mathlib.Core.Path.{◌≡◌, sym, ap, ◌∙◌}
use Prim.Native.Nat.{ℕ, zero, suc, ◌+◌, ◌*◌, ◌-◌, ◌/◌, ◌%◌, ◌<◌, ◌≤◌}
use native.Mathlib.Nat.{suc-mul, div-add-mod', le-div_iff_mul-le}
use native.Mathlib.Omega.{arith}
use lib.IntN.{ℤ}
use Rattle.rounding.specs.Nearest.{nearest, on_half}
use Rattle.rounding.specs.Between.{exact_between, between, between_half}
use Rattle.rounding.proofs.Interval.{exact_row}
use Rattle.reading.specs.Tables.{past_row, past_row_half, value_at, value_half}
use Rattle.reading.proofs.Pairs.{exact_at}

value_of : (f g : ℕ → ℤ) (step offset : ℕ) → exact_at f step offset ≡ exact_at g step offset → value_at f step offset ≡ value_at g step offset
unfolding value_at past_row between
value_of f g step offset e = ap (λ (z : ℤ). nearest z step) e

half_of : (f g : ℕ → ℤ) (step offset : ℕ) → exact_at f step offset ≡ exact_at g step offset → value_half f step offset ≡ value_half g step offset
unfolding value_half past_row_half between_half
half_of f g step offset e = ap (λ (z : ℤ). on_half z step) e

-- two columns that agree at row i and, past it, at the next are rounded from one number there; at a row itself the next row does not count
same-past : (f g : ℕ → ℤ) (i t step : ℕ) → f i ≡ g i → (0 < t → f (i + 1) ≡ g (i + 1)) → exact_between (f i) (f (i + 1)) t step ≡ exact_between (g i) (g (i + 1)) t step
same-past f g i zero step e next = exact_row (f i) (f (i + 1)) step ∙ rw e (sym (exact_row (g i) (g (i + 1)) step))
same-past f g i (suc t) step e next = rw (e, next (omega arith))

same_exact : (f g : ℕ → ℤ) (step offset : ℕ)
    → f (offset / step) ≡ g (offset / step)
    → (0 < offset % step → f (offset / step + 1) ≡ g (offset / step + 1))
    → exact_at f step offset ≡ exact_at g step offset
same_exact f g step offset e next = same-past f g (offset / step) (offset % step) step e next

-- f' is f with row j changed
module _ (f f' : ℕ → ℤ) (step j : ℕ) (positive : 0 < step) (same : (i : ℕ) → (i ≡ j → ⊥) → f' i ≡ f i) where
  exact_below : (offset : ℕ) → 0 < j → offset ≤ (j - 1) * step → exact_at f' step offset ≡ exact_at f step offset
  exact_below offset p h =
      let up : j * step ≡ (j - 1) * step + step = ap (λ (k : ℕ). k * step) (omega arith) ∙ suc-mul (j - 1) step in
      same_exact f' f step offset
      (same (offset / step) (λ q. omega (arith, (le-div_iff_mul-le {k = step} {x = j} {y = offset} positive).0 (omega arith))))
      (λ r. same (offset / step + 1) (λ q.
      let back : offset / step * step ≡ (j - 1) * step = ap (λ (k : ℕ). k * step) (omega arith) in
      omega (arith, div-add-mod' offset step)))

  exact_above : (offset : ℕ) → (j + 1) * step ≤ offset → exact_at f' step offset ≡ exact_at f step offset
  exact_above offset h =
      let row : j + 1 ≤ offset / step = (le-div_iff_mul-le {k = step} {x = j + 1} {y = offset} positive).1 h in
      same_exact f' f step offset (same (offset / step) (λ q. omega arith)) (λ r. same (offset / step + 1) (λ q. omega arith))

  pub value_below : (offset : ℕ) → 0 < j → offset ≤ (j - 1) * step → value_at f' step offset ≡ value_at f step offset
  value_below offset p h = value_of f' f step offset (exact_below offset p h)

  pub value_above : (offset : ℕ) → (j + 1) * step ≤ offset → value_at f' step offset ≡ value_at f step offset
  value_above offset h = value_of f' f step offset (exact_above offset h)

  pub half_below : (offset : ℕ) → 0 < j → offset ≤ (j - 1) * step → value_half f' step offset ≡ value_half f step offset
  half_below offset p h = half_of f' f step offset (exact_below offset p h)

  pub half_above : (offset : ℕ) → (j + 1) * step ≤ offset → value_half f' step offset ≡ value_half f step offset
  half_above offset h = half_of f' f step offset (exact_above offset h)
