-- How far two numbers lie apart, and which whole number lies nearest: the one whose multiple of d is less than half of d away. Assumes nothing.
use mathlib.Core.Path.{◌≡◌, sym, ap, ◌∙◌}
use Prim.Native.Nat.{ℕ, suc, ◌+◌, ◌*◌, ◌-◌, ◌<◌, ◌≤◌}
use native.Mathlib.Nat.{add-mul}
use native.Mathlib.Decide.{dec_le}
use native.Mathlib.Omega.{arith}
use lib.IntN.{ℤ, pos, negsuc, neg_ℤ, nat_abs, sub_ℕ, ◌-ℤ◌, ◌*ℤ◌, neg_ℤ-+ℤ, neg_ℤ-neg_ℤ}
use Rattle.rounding.specs.Nearest.{with_sign, nearest_size, nearest}
use Rattle.rounding.proofs.Ring.{minus_times}
use Rattle.rounding.proofs.Sizes.{sub_ℕ_le, sub_ℕ_lt, pos_minus, size_minus}
use Rattle.rounding.proofs.Rounding.{is_nearest, only-nearest}

-- ---- how far two numbers lie apart
pub apart : (a b : ℕ) → nat_abs (pos a -ℤ pos b) ≡ (a - b) + (b - a)
apart a b = ap nat_abs (pos_minus a b) ∙ by_order (dec_le b a)
  where
    by_order : Dec (b ≤ a) → nat_abs (sub_ℕ a b) ≡ (a - b) + (b - a)
    by_order (yes h) = ap nat_abs (sub_ℕ_le h) ∙ omega arith
    by_order (no h) = ap nat_abs (sub_ℕ_lt {a = a} {b = b} (omega arith)) ∙ omega arith

pub far : (a b : ℕ) → nat_abs (neg_ℤ (pos a) -ℤ pos b) ≡ a + b
far a b = ap nat_abs (sym (neg_ℤ-+ℤ (pos a) (pos b))) ∙ size_minus (pos (a + b))

-- ---- both signs alike
pub mirrored : (n r : ℤ) (d : ℕ) → nat_abs (neg_ℤ r *ℤ pos d -ℤ neg_ℤ n) ≡ nat_abs (r *ℤ pos d -ℤ n)
mirrored n r d =
    let turned : neg_ℤ r *ℤ pos d -ℤ neg_ℤ n ≡ neg_ℤ (r *ℤ pos d -ℤ n)
    = ap (λ (z : ℤ). z -ℤ neg_ℤ n) (minus_times r (pos d)) ∙ sym (neg_ℤ-+ℤ (r *ℤ pos d) (neg_ℤ n)) in
    ap nat_abs turned ∙ size_minus (r *ℤ pos d -ℤ n)

-- ---- the nearest is within half of d
of_size : (n d : ℕ) → 0 < d → 2 * nat_abs (pos (nearest_size n d) *ℤ pos d -ℤ pos n) ≤ d
of_size n d some =
    let known = is_nearest n d some in
    omega (arith, apart (nearest_size n d * d) n, known.low, known.high)

pub nearest-within : (n : ℤ) (d : ℕ) → 0 < d → 2 * nat_abs (nearest n d *ℤ pos d -ℤ n) ≤ d
unfolding nearest with_sign
nearest-within (pos n) d some = of_size n d some
nearest-within (negsuc n) d some = rw (mirrored (pos (suc n)) (pos (nearest_size (suc n) d)) d) (of_size (suc n) d some)

-- ---- what is less than half of d away is the nearest
only_size : (n d : ℕ) (r : ℤ) → 2 * nat_abs (r *ℤ pos d -ℤ pos n) < d → r ≡ pos (nearest_size n d)
only_size n d (pos k) near =
    let e = apart (k * d) n in
    ap pos (sym (only-nearest (record { low = omega (arith, e, near); high = omega (arith, e, near) })))
only_size n d (negsuc k) near = absurd (omega (arith, far (suc k * d) n, near, add-mul k 1 d))

pub only-within : (n : ℤ) (d : ℕ) (r : ℤ) → 2 * nat_abs (r *ℤ pos d -ℤ n) < d → r ≡ nearest n d
unfolding nearest with_sign
only-within (pos n) d r near = only_size n d r near
only-within (negsuc n) d r near =
    sym (neg_ℤ-neg_ℤ r) ∙ ap neg_ℤ (only_size (suc n) d (neg_ℤ r) (rw (mirrored (negsuc n) r d) near))
