-- Two rising columns that differ in row r alone: a number at or below row r − 1's figure, or at or above row r + 1's, stands alike to every row of both. Assumes nothing.
use mathlib.Core.Path.{◌≡◌, refl, sym, ap, ◌∙◌}
use mathlib.Core.Bool.{true}
use mathlib.Core.Logic.{◌⊎◌, inl, inr}
use Prim.Native.Nat.{ℕ, zero, suc, ◌+◌, ◌-◌, ◌<◌, ◌≤◌}
use native.Mathlib.Nat.{add-zero}
use native.Mathlib.Decide.{ℕ_discrete, dec_lt}
use native.Mathlib.Omega.{arith}
use lib.IntN.{ℤ}
use lib.Signed.{le_z, lt_z}
use Rattle.rounding.proofs.Order.{le_z-refl, le_z_trans, lt_z-le_z, le_z-lt_z, lt_z_le, not_above_of, not-both}
use Rattle.row_search.specs.Rows.{last_not_above, Rising}
use Rattle.row_search.proofs.SameRow.{same_row}
use Rattle.row_search.proofs.LastRow.{last_below, last-not_above, later_above}

-- a later row is not below
later : (f : ℕ → ℤ) (n : ℕ) → Rising f n → (i d : ℕ) → i + d < n → le_z (f i) (f (i + d)) ≡ true
unfolding Rising
later f n up i zero h = rw add-zero (le_z-refl (f i))
later f n up i (suc d) h =
    let next : i + suc d ≡ i + d + 1 = omega arith in
    rw next (le_z_trans (f i) (f (i + d)) (f (i + d + 1)) (later f n up i d (omega arith)) (lt_z_le (f (i + d)) (f (i + d + 1)) (up (i + d) (omega arith))))

-- ---- the two columns
-- z is at or below row r − 1's figure, or at or above row r + 1's
abbrev pub Aside : (ℕ → ℤ) → ℕ → ℕ → ℤ → Type 0
Aside f n r z = ((0 < r) × (le_z z (f (r - 1)) ≡ true)) ⊎ ((r + 1 < n) × (le_z (f (r + 1)) z ≡ true))

module _ (f g : ℕ → ℤ) (n r : ℕ) (there : r < n) (up : Rising f n) (up' : Rising g n) (same : (i : ℕ) → (i ≡ r → ⊥) → g i ≡ f i) (z : ℤ) where
  -- a column's row r, above z where z is below it, and not above where z is above
  row_above : (h : ℕ → ℤ) → Rising h n → 0 < r → le_z z (h (r - 1)) ≡ true → lt_z z (h r) ≡ true
  unfolding Rising
  row_above h rising p l =
      let at : r - 1 + 1 ≡ r = omega arith in
      le_z-lt_z z (h (r - 1)) (h r) l (rw at at (rising (r - 1) (omega arith)))

  row_below : (h : ℕ → ℤ) → Rising h n → r + 1 < n → le_z (h (r + 1)) z ≡ true → le_z (h r) z ≡ true
  unfolding Rising
  row_below h rising p l = lt_z_le (h r) z (lt_z-le_z (h r) (h (r + 1)) z (rising r p) l)

  before : 0 < r → g (r - 1) ≡ f (r - 1)
  before p = same (r - 1) (λ e. omega arith)

  after : g (r + 1) ≡ f (r + 1)
  after = same (r + 1) (λ e. omega arith)

  -- every row stands alike to z
  pub stands : Aside f n r z → (i : ℕ) → le_z (g i) z ≡ le_z (f i) z
  stands aside i = pick (ℕ_discrete i r) aside
    where
      pick : Dec (i ≡ r) → Aside f n r z → le_z (g i) z ≡ le_z (f i) z
      pick (no other) side = ap (λ (x : ℤ). le_z x z) (same i other)
      pick (yes e) (inl low) =
          rw e (not_above_of (g r) z (row_above g up' low.0 (rw (before low.0) low.1)) ∙ sym (not_above_of (f r) z (row_above f up low.0 low.1)))
      pick (yes e) (inr high) = rw e (row_below g up' high.0 (rw after high.1) ∙ sym (row_below f up high.0 high.1))

  -- and z to the last row
  pub stands_last : Aside f n r z → le_z z (g (n - 1)) ≡ le_z z (f (n - 1))
  stands_last aside = pick (ℕ_discrete (n - 1) r) aside
    where
      pick : Dec (n - 1 ≡ r) → Aside f n r z → le_z z (g (n - 1)) ≡ le_z z (f (n - 1))
      pick (no other) side = ap (le_z z) (same (n - 1) other)
      pick (yes e) (inl low) =
          rw e (lt_z_le z (g r) (row_above g up' low.0 (rw (before low.0) low.1)) ∙ sym (lt_z_le z (f r) (row_above f up low.0 low.1)))
      pick (yes e) (inr high) = absurd (omega (arith, high.0))

  -- so z has one row in both
  pub one-row : Aside f n r z → last_not_above g n z ≡ last_not_above f n z
  one-row aside = same_row g f n z (λ i h. stands aside i)

  -- which is below row r where z is, and above it where z is
  pub row_before : (low : (0 < r) × (le_z z (f (r - 1)) ≡ true)) → le_z (f 0) z ≡ true → last_not_above f n z < r
  row_before low first = pick (last_not_above f n z) refl (last_below f z n (omega arith)) (last-not_above f z n first)
    where
      pick : (i : ℕ) → last_not_above f n z ≡ i → i < n → le_z (f i) z ≡ true → i < r
      pick i e h l = by_order (dec_lt i r)
        where
          by_order : Dec (i < r) → i < r
          by_order (yes p) = p
          by_order (no p) =
              let on : r + (i - r) ≡ i = omega arith in
              absurd (not-both (f r) z (le_z_trans (f r) (f i) z (rw on at (later f n up r (i - r) (omega arith))) l) (row_above f up low.0 low.1))

  pub row-after : (high : (r + 1 < n) × (le_z (f (r + 1)) z ≡ true)) → r + 1 ≤ last_not_above f n z
  row-after high = pick (dec_lt (last_not_above f n z) (r + 1))
    where
      pick : Dec (last_not_above f n z < r + 1) → r + 1 ≤ last_not_above f n z
      pick (yes p) = absurd (not-both (f (r + 1)) z high.1 (later_above f z n (r + 1) high.0 p))
      pick (no p) = omega arith
