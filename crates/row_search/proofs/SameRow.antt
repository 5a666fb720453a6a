-- The row of a number depends on which rows are not above it. Assumes nothing.
use mathlib.Core.Path.{◌≡◌, refl}
use Prim.Native.Nat.{ℕ, zero, suc, ◌<◌}
use native.Mathlib.Omega.{arith}
use lib.IntN.{ℤ}
use lib.Signed.{le_z}
use Rattle.row_search.specs.Rows.{last_not_above}

-- two columns whose rows stand alike to z have one row of z
pub same_row : (f g : ℕ → ℤ) (n : ℕ) (z : ℤ) → ((i : ℕ) → i < n → le_z (f i) z ≡ le_z (g i) z) → last_not_above f n z ≡ last_not_above g n z
unfolding last_not_above
same_row f g zero z same = refl
same_row f g (suc n) z same = rw (same n (omega arith), same_row f g n z (λ i l. same i (omega arith)))
