-- A point's numbers as the code has them: sizes and differences that pass 32 bits and are far from 64. Assumes nothing.
use mathlib.Core.Path.{◌≡◌, ap, ◌∙◌}
use mathlib.Core.Bool.{Bool, ◌&&◌}
use Prim.Native.Nat.{ℕ, ◌-◌, ◌^◌, ◌<◌, ◌≤◌}
use native.Mathlib.Nat.{lt_of_le_of_lt}
use native.Mathlib.Omega.{arith}
use lib.Dec.{lit<}
use lib.IntN.{ℤ, pos, nat_abs}
use lib.Signed.{le_z}
use mir.Syntax.{w32, w64}
use mir.Val.{SFits, to_z, of_z}
use Rattle.rounding.proofs.Holds.{Holds, held, held_size, size_i32, cast, cast_fits}

-- a point's number, widened
pub wide : {z : ℤ} → SFits w32 z → Holds w64 (of_z w64 (to_z w32 (of_z w32 z))) z 2_147_483_648
wide h = cast (held h (size_i32 h)) tt

pub wide_fits : {z : ℤ} → SFits w32 z → SFits w64 (to_z w32 (of_z w32 z))
wide_fits h = cast_fits (held h (size_i32 h)) tt

-- a number as it is answered, with its bound
pub answered : {n B : ℕ} {z : ℤ} → Holds w64 n z B → (to_z w64 n ≡ z) × (nat_abs (to_z w64 n) ≤ B)
answered h = (h.is, rw h.is h.size)

-- ---- y has the bits of z, and n is its size
module _ {y z : ℤ} (same : y ≡ z) (small : nat_abs z ≤ 4_000_000_000) where
  pub size_small : nat_abs y < 2 ^ 63
  size_small = rw same (lt_of_le_of_lt small (lit< tt))

  module _ {n : ℕ} (e : n ≡ nat_abs y) where
    pub size_signed : SFits w64 (pos n)
    size_signed = record { sfits = omega (arith, small, e, ap nat_abs same) }

    -- a test of it, as a signed number
    pub size_tested : (test : ℤ → Bool) {r : Bool} → r ≡ test (to_z w64 n) → r ≡ test (pos (nat_abs z))
    size_tested test a =
        let bound : n ≤ 4_000_000_000 = omega (arith, small, e, ap nat_abs same) in
        a ∙ ap test ((held_size w64 bound tt).is ∙ ap pos (e ∙ ap nat_abs same))

-- ---- the last of m rows, where there are n
pub from_first_to_last : (f : ℕ → ℤ) (z : ℤ) {n m : ℕ} {u v : ℤ} → u ≡ f 0 → v ≡ f (m - 1) → m ≡ n → (le_z u z && le_z z v) ≡ (le_z (f 0) z && le_z z (f (n - 1)))
from_first_to_last f z p q e = rw (p, q, e)
