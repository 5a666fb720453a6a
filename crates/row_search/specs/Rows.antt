-- The row of a reduced northing.
use Rattle.std.specs.Prelude.{◌≡◌, true, cond, ℕ, zero, suc, ◌+◌, ◌<◌, ℤ, pos, ◌+ℤ◌}
use Rattle.std.specs.Int.Signed.{le_z, lt_z}

-- "The row is the last with y0 not above it": of the first n rows, the last whose figure is not above z, and 0 where there is none, which
-- number 14 refuses first. `f i` is the figure of row i.
unfoldable pub last_not_above : (ℕ → ℤ) → ℕ → ℤ → ℕ
last_not_above f zero z = 0
last_not_above f (suc n) z = cond (le_z (f n) z) n (last_not_above f n z)

-- From each of the first n rows but the last the figure rises to the next row's by least to most; a passing sheet's y0 by 600,000 to 615,000.
unfoldable pub RisesBy : (ℕ → ℤ) → ℕ → ℕ → ℕ → Type 0
RisesBy f n least most =
    (i : ℕ) → i + 1 < n → (le_z (f i +ℤ pos least) (f (i + 1)) ≡ true) × (le_z (f (i + 1)) (f i +ℤ pos most) ≡ true)

-- From each of the first n rows but the last the figure rises to the next row's.
unfoldable pub Rising : (ℕ → ℤ) → ℕ → Type 0
Rising f n = (i : ℕ) → i + 1 < n → lt_z (f i) (f (i + 1)) ≡ true
