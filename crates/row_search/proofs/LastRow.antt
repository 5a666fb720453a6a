-- What the last row not above z is: one of the rows; its figure is not above z where row 0's is not; every later row's figure is above z; and in a rising
-- column it is the only row whose figure is not above z and that is the last of all or has the next one's figure above z. Assumes nothing.
use mathlib.Core.Path.{◌≡◌, refl, sym}
use mathlib.Core.Bool.{Bool, true, false, cond}
use Prim.Native.Nat.{ℕ, zero, suc, ◌+◌, ◌-◌, ◌<◌, ◌≤◌, min}
use native.Mathlib.Decide.{dec_lt}
use native.Mathlib.Numerals.{add-one}
use native.Mathlib.Omega.{arith}
use lib.IntN.{ℤ}
use lib.Signed.{le_z, lt_z}
use Rattle.row_search.specs.Rows.{last_not_above, Rising}
use Rattle.rounding.proofs.Order.{above_of, not_above_of, le_z_trans, lt_z_trans, lt_z_le}

module _ (f : ℕ → ℤ) (z : ℤ) where
  -- it is one of the n rows
  pub last_below : (n : ℕ) → 0 < n → last_not_above f n z < n
  unfolding last_not_above
  last_below zero h = elim h [ ]
  last_below (suc zero) h = pick (le_z (f 0) z)
    where
      pick : (t : Bool) → cond t 0 0 < 1
      pick true = omega arith
      pick false = omega arith
  last_below (suc (suc n)) h = pick (le_z (f (suc n)) z) (last_below (suc n) (omega arith))
    where
      pick : (t : Bool) → last_not_above f (suc n) z < suc n → cond t (suc n) (last_not_above f (suc n) z) < suc (suc n)
      pick true l = omega arith
      pick false l = omega arith

  -- its figure is not above z
  pub last-not_above : (n : ℕ) → le_z (f 0) z ≡ true → le_z (f (last_not_above f n z)) z ≡ true
  unfolding last_not_above
  last-not_above zero e = e
  last-not_above (suc n) e = pick (le_z (f n) z) refl (last-not_above n e)
    where
      pick : (t : Bool) → le_z (f n) z ≡ t → le_z (f (last_not_above f n z)) z ≡ true → le_z (f (cond t n (last_not_above f n z))) z ≡ true
      pick true q h = q
      pick false q h = h

  -- every later row's figure is above z
  pub later_above : (n i : ℕ) → i < n → last_not_above f n z < i → lt_z z (f i) ≡ true
  unfolding last_not_above
  later_above zero i l h = absurd (omega arith)
  later_above (suc n) i l h = pick (le_z (f n) z) refl h (dec_lt i n) (later_above n i)
    where
      pick : (t : Bool) → le_z (f n) z ≡ t → cond t n (last_not_above f n z) < i → Dec (i < n)
          → (i < n → last_not_above f n z < i → lt_z z (f i) ≡ true) → lt_z z (f i) ≡ true
      pick true q h d rest = absurd (omega arith)
      pick false q h (yes s) rest = rest s h
      pick false q h (no s) rest = let e : i ≡ n = omega arith in above_of (f i) z (rw e q)

  -- a row whose figure is not above z, and all later ones' are, is the last
  by-later : (n r : ℕ) → r < n → le_z (f r) z ≡ true → ((i : ℕ) → r < i → i < n → lt_z z (f i) ≡ true) → r ≡ last_not_above f n z
  unfolding last_not_above
  by-later zero r l e later = absurd (omega arith)
  by-later (suc n) r l e later = pick (dec_lt r n) (λ s. by-later n r s e (λ i h k. later i h (omega arith)))
    where
      pick : Dec (r < n) → (r < n → r ≡ last_not_above f n z) → r ≡ cond (le_z (f n) z) n (last_not_above f n z)
      pick (yes s) rest = rw (not_above_of (f n) z (later n s (omega arith))) (rest s)
      pick (no s) rest = let q : r ≡ n = omega arith in rw (← q, e) refl

  -- in a rising column all later figures are above z where the next one's is
  all_later : (n r : ℕ) → Rising f n → (r + 1 < n → lt_z z (f (r + 1)) ≡ true) → (i : ℕ) → r < i → i < n → lt_z z (f i) ≡ true
  unfolding Rising
  all_later n r up next zero h l = absurd (omega arith)
  all_later n r up next (suc i) h l = pick (dec_lt r i) (λ s. all_later n r up next i s (omega arith))
    where
      pick : Dec (r < i) → (r < i → lt_z z (f i) ≡ true) → lt_z z (f (suc i)) ≡ true
      pick (yes s) rest = rw (← add-one i) (lt_z_trans z (f i) (f (i + 1)) (rest s) (up i (omega arith)))
      pick (no s) rest = let e : suc i ≡ r + 1 = omega arith in rw e (next (omega arith))

  -- it is the only row whose figure is not above z and that has none after it, or one above z
  pub only-last : (n r : ℕ) → Rising f n → r < n → le_z (f r) z ≡ true → (r + 1 < n → lt_z z (f (r + 1)) ≡ true) → r ≡ last_not_above f n z
  only-last n r up l e next = by-later n r l e (all_later n r up next)

  -- without the last of n rows it is the same row, or the one before the last
  pub but_last : (n : ℕ) → 2 ≤ n → Rising f n → le_z (f 0) z ≡ true → last_not_above f (n - 1) z ≡ min (last_not_above f n z) (n - 2)
  unfolding Rising
  but_last n two up first = sym (only-last (n - 1) row (λ i l. up i (omega arith)) (omega arith) (pick (dec_lt (n - 2) last)) (λ l. later_above n (row + 1) (omega arith) (omega arith)))
    where
      last : ℕ
      last = last_not_above f n z

      row : ℕ
      row = min last (n - 2)

      pick : Dec (n - 2 < last) → le_z (f row) z ≡ true
      pick (yes h) =
          let e : row ≡ n - 2 = omega arith in
          let after : last ≡ n - 2 + 1 = omega (arith, last_below n (omega arith)) in
          rw e (le_z_trans (f (n - 2)) (f (n - 2 + 1)) z (lt_z_le (f (n - 2)) (f (n - 2 + 1)) (up (n - 2) (omega arith))) (rw after at (last-not_above n first)))
      pick (no h) = let e : row ≡ last = omega arith in rw e (last-not_above n first)
