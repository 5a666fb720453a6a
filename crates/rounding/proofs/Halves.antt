-- Laws of halves: a whole number is no half, and a rounding's mark is that of its exact value. Assumes nothing.
use mathlib.Core.Path.{◌≡◌, ap, ◌∙◌}
use mathlib.Core.Bool.{Bool, false}
use Prim.Native.Nat.{ℕ, ◌*◌, ◌%◌, ◌<◌}
use native.Mathlib.Nat.{add-zero}
use native.Mathlib.Omega.{arith}
use borrow.Author.Tests.{ne_eqb}
use lib.Arith.{digits_mod}
use lib.IntN.{ℤ, pos, nat_abs, ◌*ℤ◌}
use mir.Syntax.{w64}
use mir.Val.{to_z}
use Rattle.rounding.specs.Nearest.{on_half_size, on_half}
use Rattle.rounding.proofs.Sizes.{size_product}
use Rattle.rounding.proofs.Holds.{Holds}

-- k·d leaves nothing beside whole d's
no_rest : (k d : ℕ) → 0 < d → k * d % d ≡ 0
no_rest k d h = rw add-zero at (digits_mod k {m = d} {r = 0} h)

pub multiple_no_half : (k d : ℕ) → 0 < d → on_half_size (k * d) d ≡ false
unfolding on_half_size
multiple_no_half k d h = ne_eqb (2 * (k * d % d)) d (λ e. omega (arith, e, no_rest k d h))

pub whole_no_half : (z : ℤ) (d : ℕ) → 0 < d → on_half (z *ℤ pos d) d ≡ false
unfolding on_half
whole_no_half z d h = ap (λ (n : ℕ). on_half_size n d) (size_product z (pos d)) ∙ multiple_no_half (nat_abs z) d h

-- a step that hands its numerator to the function `nearest`: f is the call's mark, and the bits n hold the numerator z
pub marked : {n B : ℕ} {z : ℤ} {f : Bool} (d : ℕ) → Holds w64 n z B → f ≡ on_half (to_z w64 n) d → f ≡ on_half z d
marked d h e = e ∙ ap (λ (z : ℤ). on_half z d) h.is

-- the same where the numerator is not negative, and its size went to `nearest_size`
pub marked_size : {n B : ℕ} {z : ℤ} {f : Bool} (d : ℕ) → Holds w64 n z B → f ≡ on_half_size (nat_abs (to_z w64 n)) d → f ≡ on_half z d
unfolding on_half
marked_size d h e = e ∙ ap (λ (z : ℤ). on_half_size (nat_abs z) d) h.is
