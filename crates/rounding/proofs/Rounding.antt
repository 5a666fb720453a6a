-- Laws of rounding. `nearest_size n d` is the one number r with r − 1/2 ≤ n/d < r + 1/2; `nearest` is odd, keeps multiples, and does not pass its operand in size.
-- Assumes nothing.
use mathlib.Core.Path.{◌≡◌, refl, sym, ap, ◌∙◌}
use Prim.Native.Nat.{ℕ, zero, suc, ◌+◌, ◌*◌, ◌/◌, ◌%◌, ◌<◌, ◌≤◌}
use native.Mathlib.Nat.{div-add-mod', mod-lt, div-eq_of_lt-le, mul_left_comm, add-mul, mul-le-mul_left, le-div_iff_mul-le}
use native.Mathlib.Omega.{arith}
use lib.IntN.{ℤ, pos, negsuc, neg_ℤ, nat_abs, ◌*ℤ◌}
use lib.Dec.{T}
use lib.Signed.{non_neg}
use mir.Syntax.{w64}
use mir.Val.{Fits, to_z}
use Rattle.rounding.specs.Nearest.{with_sign, nearest_size, nearest}
use Rattle.rounding.specs.Ranges.{most_numerator, most_divisor}
use Rattle.rounding.proofs.Sizes.{size_with_sign}
use Rattle.rounding.proofs.Holds.{Holds}

-- r − 1/2 ≤ n/d < r + 1/2, without fractions
pub record IsNearest (n d r : ℕ) : Type 0 where
  pub low : 2 * (r * d) ≤ 2 * n + d
  pub high : 2 * n < 2 * (r * d) + d

-- (2n + d)/2d, rounded down, is such an r
halves : (n d x r : ℕ) → 0 < d → x ≡ 2 * n + d → r ≡ x / (2 * d) → IsNearest n d r
halves n d x r h e q =
    let parts : r * (2 * d) + x % (2 * d) ≡ x = rw q (div-add-mod' x (2 * d)) in
    let twice = mul_left_comm r 2 d in
    let rest : x % (2 * d) < 2 * d = mod-lt x (omega arith) in
    record { low = omega (arith, parts, twice); high = omega (arith, parts, twice, rest) }

pub is_nearest : (n d : ℕ) → 0 < d → IsNearest n d (nearest_size n d)
unfolding nearest_size
is_nearest n d h = halves n d (2 * n + d) (nearest_size n d) h refl refl

pub only-nearest : {n d r : ℕ} → IsNearest n d r → nearest_size n d ≡ r
unfolding nearest_size
only-nearest {n} {d} {r} h =
    let twice = mul_left_comm r 2 d in
    div-eq_of_lt-le {k = r} (2 * d) (omega (arith, h.low, twice)) (omega (arith, h.high, twice, add-mul r 1 (2 * d)))

-- ---- n/d by its quotient and its rest
module _ (n d : ℕ) (some : 0 < d) where
  parts : n / d * d + n % d ≡ n
  parts = div-add-mod' n d

  pub quotient_nearer : 2 * (n % d) < d → n / d ≡ nearest_size n d
  quotient_nearer below = sym (only-nearest (record { low = omega (arith, parts); high = omega (arith, parts) }))

  pub next-as-near : d ≤ 2 * (n % d) → n / d + 1 ≡ nearest_size n d
  next-as-near above =
      let next = add-mul (n / d) 1 d in
      sym (only-nearest (record { low = omega (arith, parts, next); high = omega (arith, parts, next, mod-lt n some) }))

  pub twice-rest-fits : d ≤ most_divisor → Fits w64 (2 * (n % d))
  twice-rest-fits most = record { fits = omega (arith, mod-lt n some) }

  pub next_fits : n ≤ most_numerator → Fits w64 (n / d + 1)
  next_fits most = record { fits = omega (arith, parts, mul-le-mul_left (n / d) some) }

-- ---- sizes
pub nearest_size_multiple : (k d : ℕ) → 0 < d → nearest_size (k * d) d ≡ k
nearest_size_multiple k d h = only-nearest (record { low = omega arith; high = omega arith })

pub nearest_size-zero : (d : ℕ) → 0 < d → nearest_size 0 d ≡ 0
nearest_size-zero d h = only-nearest (record { low = omega arith; high = omega arith })

pub nearest_size-rises : (m n d : ℕ) → 0 < d → m ≤ n → nearest_size m d ≤ nearest_size n d
unfolding nearest_size
nearest_size-rises m n d h l =
    (le-div_iff_mul-le {k = 2 * d} {x = (2 * m + d) / (2 * d)} {y = 2 * n + d} (omega arith)).1
    (omega (arith, div-add-mod' (2 * m + d) (2 * d)))

-- a bound of n/d at a whole number k is a bound of the nearest
pub nearest_size-most : (n d k : ℕ) → 0 < d → n ≤ k * d → nearest_size n d ≤ k
nearest_size-most n d k h l = rw (nearest_size_multiple k d h) at (nearest_size-rises n (k * d) d h l)

pub nearest_size-least : (n d k : ℕ) → 0 < d → k * d ≤ n → k ≤ nearest_size n d
nearest_size-least n d k h l = rw (nearest_size_multiple k d h) at (nearest_size-rises (k * d) n d h l)

pub nearest_size_le : (n d : ℕ) → 0 < d → nearest_size n d ≤ n
nearest_size_le n d h = nearest_size-most n d n h (omega (arith, mul-le-mul_left n h))

-- ---- signed numbers
pub size_nearest : (z : ℤ) (d : ℕ) → nat_abs (nearest z d) ≡ nearest_size (nat_abs z) d
unfolding nearest
size_nearest z d = size_with_sign z (pos (nearest_size (nat_abs z) d))

nearest-not_negative : (z : ℤ) (d : ℕ) → T (non_neg z) → pos (nearest_size (nat_abs z) d) ≡ nearest z d
unfolding nearest with_sign
nearest-not_negative (pos n) d h = refl
nearest-not_negative (negsuc n) d h = absurd h

pub nearest_minus : (n d : ℕ) → 0 < d → nearest (neg_ℤ (pos n)) d ≡ neg_ℤ (pos (nearest_size n d))
unfolding nearest with_sign
nearest_minus zero d h = ap pos (nearest_size-zero d h) ∙ sym (ap (λ (k : ℕ). neg_ℤ (pos k)) (nearest_size-zero d h))
nearest_minus (suc n) d h = refl

pub nearest_multiple : (z : ℤ) (d : ℕ) → 0 < d → nearest (z *ℤ pos d) d ≡ z
unfolding nearest with_sign
nearest_multiple (pos n) d h = ap pos (nearest_size_multiple n d h)
nearest_multiple (negsuc n) d h = nearest_minus (suc n * d) d h ∙ ap (λ (k : ℕ). neg_ℤ (pos k)) (nearest_size_multiple (suc n) d h)

-- a step that hands its numerator to the function `nearest`: r is the call's result, and the bits n hold the numerator z
pub rounded : {n B : ℕ} {z r : ℤ} (d : ℕ) → Holds w64 n z B → r ≡ nearest (to_z w64 n) d → r ≡ nearest z d
rounded d h e = e ∙ ap (λ (z : ℤ). nearest z d) h.is

-- the same where the numerator is not negative, and its size went to `nearest_size`
pub rounded_size : {n B r : ℕ} {z : ℤ} (d : ℕ) → Holds w64 n z B → T (non_neg z) → r ≡ nearest_size (nat_abs (to_z w64 n)) d → pos r ≡ nearest z d
rounded_size d h s e = ap pos (e ∙ ap (λ (z : ℤ). nearest_size (nat_abs z) d) h.is) ∙ nearest-not_negative _ d s
