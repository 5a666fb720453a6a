-- A quotient by K·2h is rounded as the quotient by 2h is, once what is below K has been dropped toward zero: so a product that passes 64 bits is worked in parts.
-- Assumes nothing.
use mathlib.Core.Path.{◌≡◌, refl, sym, ap, subst, ◌∙◌}
use mathlib.Core.Bool.{Bool, true, false, ◌&&◌}
use Prim.Native.Nat.{ℕ, zero, suc, ◌+◌, ◌*◌, ◌-◌, ◌/◌, ◌%◌, ◌<◌, ◌≤◌, zero-le}
use native.Mathlib.Nat.{le_refl, le-suc, mul-le-mul_right, mul-pos, div-add-mod', mod-lt, mul_comm, mul_left_comm, add-mul, sub-zero, mul-div_cancel, add-zero}
use native.Mathlib.Decide.{ℕ_discrete}
use native.Mathlib.Omega.{arith}
use lib.Arith.{digits_div, digits_mod, mod-mul}
use lib.Dec.{T, eqb}
use borrow.Author.Tests.{le-leb, eq-eqb, ne_eqb}
use lib.IntN.{ℤ, pos, negsuc, neg_ℤ, nat_abs, ◌+ℤ◌, ◌*ℤ◌, +ℤ_one, neg_ℤ-+ℤ, -ℤ-+ℤ_cancel}
use lib.Signed.{le_z, non_neg}
use Rattle.rounding.specs.Nearest.{with_sign, nearest_size, nearest, on_half_size, on_half}
use Rattle.steps.specs.Wide.{toward_zero}
use Rattle.rounding.proofs.Ring.{swap_last, sum_times, times_assoc}
use Rattle.rounding.proofs.Sizes.{size_minus}
use Rattle.rounding.proofs.Rounding.{IsNearest, is_nearest, only-nearest, nearest_minus}

-- ---- `toward_zero`, as the tests of its code show it
pub toward_up : (t : ℤ) (e : ℕ) → le_z (pos 0) t ≡ true → toward_zero t e ≡ t
unfolding toward_zero
toward_up (pos n) e h = refl
toward_up (negsuc n) e h = absurd (subst T (sym h) tt)

pub toward_size : (t : ℤ) (e : ℕ) → T (non_neg t) → toward_zero t e ≡ t
unfolding toward_zero
toward_size (pos n) e h = refl
toward_size (negsuc _) e h = elim h [ ]

pub toward_exact : (t : ℤ) → toward_zero t 0 ≡ t
unfolding toward_zero
toward_exact (pos n) = refl
toward_exact (negsuc n) = refl

pub toward_next : (t : ℤ) (e : ℕ) → le_z (pos 0) t ≡ false → (e ≡ 0 → ⊥) → toward_zero t e ≡ t +ℤ pos 1
unfolding toward_zero
toward_next (pos n) e h k = absurd (subst T (sym (le-leb 0 n zero-le) ∙ h) tt)
toward_next (negsuc n) zero h k = absurd (k refl)
toward_next (negsuc zero) (suc e) h k = sym (+ℤ_one (negsuc zero))
toward_next (negsuc (suc n)) (suc e) h k = sym (+ℤ_one (negsuc (suc n)))

pub size_toward : (t : ℤ) (e : ℕ) → nat_abs (toward_zero t e) ≤ nat_abs t
unfolding toward_zero
size_toward (pos n) e = le_refl n
size_toward (negsuc n) zero = le_refl (suc n)
size_toward (negsuc n) (suc e) = rw size_minus (le-suc n)

-- ---- what is below K is dropped
-- of a size: r·2h − h ≤ n/K < r·2h + h, with n/K rounded down, times K
keeps_nearest : (n K h r : ℕ) → 0 < K → IsNearest (n / K) (2 * h) r → IsNearest n (K * (2 * h)) r
keeps_nearest n K h r k known =
    let turned : r * (K * (2 * h)) ≡ r * (2 * h) * K = mul_left_comm r K (2 * h) ∙ mul_comm K (r * (2 * h)) in
    let half : K * (2 * h) ≡ 2 * (h * K) = mul_left_comm K 2 h ∙ ap (λ (x : ℕ). 2 * x) (mul_comm K h) in
    let below : r * (2 * h) ≤ n / K + h = omega (arith, known.low) in
    let above : n / K + 1 ≤ r * (2 * h) + h = omega (arith, known.high) in
    record {
      low = omega (arith, turned, half, mul-le-mul_right K below, add-mul (n / K) h K, div-add-mod' n K);
      high = omega (arith, turned, half, mul-le-mul_right K above, add-mul (n / K) 1 K, add-mul (r * (2 * h)) h K, div-add-mod' n K, mod-lt n k);
    }

pub drop_below : (n K h : ℕ) → 0 < K → 0 < h → nearest_size n (K * (2 * h)) ≡ nearest_size (n / K) (2 * h)
drop_below n K h k j =
    only-nearest (keeps_nearest n K h (nearest_size (n / K) (2 * h)) k (is_nearest (n / K) (2 * h) (omega arith)))

minus_plus : (a e : ℕ) → e ≤ a → neg_ℤ (pos a) +ℤ pos e ≡ neg_ℤ (pos (a - e))
minus_plus a e h =
    let split : a ≡ (a - e) + e = omega arith in
    ap (λ (x : ℕ). neg_ℤ (pos x) +ℤ pos e) split
    ∙ ap (λ (x : ℤ). x +ℤ pos e) (neg_ℤ-+ℤ (pos (a - e)) (pos e))
    ∙ -ℤ-+ℤ_cancel (neg_ℤ (pos (a - e))) (pos e)

-- (n + 1 less e/K) rounded down, for e below K: n + 1 where e is 0, else n
pub dropped : (n e K : ℕ) → e < K → neg_ℤ (pos ((suc n * K - e) / K)) ≡ toward_zero (negsuc n) e
unfolding toward_zero
dropped n zero K k = ap (λ (x : ℕ). neg_ℤ (pos x)) (ap (λ (x : ℕ). x / K) (sub-zero (suc n * K)) ∙ mul-div_cancel (suc n) k)
dropped n (suc e) K k =
    let rest : suc n * K - suc e ≡ n * K + (K - suc e) = omega arith in
    ap (λ (x : ℕ). neg_ℤ (pos x)) (ap (λ (x : ℕ). x / K) rest ∙ digits_div n (omega arith))

-- of a signed number t·K + e, e from 0 to below K
pub drop_low : (t : ℤ) (e K h : ℕ) → e < K → 0 < h → nearest (t *ℤ pos K +ℤ pos e) (K * (2 * h)) ≡ nearest (toward_zero t e) (2 * h)
unfolding nearest with_sign toward_zero
drop_low (pos n) e K h k j = ap pos (drop_below (n * K + e) K h (omega arith) j ∙ ap (λ (x : ℕ). nearest_size x (2 * h)) (digits_div n k))
drop_low (negsuc n) e K h k j =
    let low : e ≤ suc n * K = omega (arith, mul-le-mul_right K (zero-le {n = n})) in
    ap (λ (x : ℤ). nearest x (K * (2 * h))) (minus_plus (suc n * K) e low)
    ∙ nearest_minus (suc n * K - e) (K * (2 * h)) (mul-pos (omega arith) (omega arith))
    ∙ ap (λ (x : ℕ). neg_ℤ (pos x)) (drop_below (suc n * K - e) K h (omega arith) j)
    ∙ sym (nearest_minus ((suc n * K - e) / K) (2 * h) (omega arith))
    ∙ ap (λ (x : ℤ). nearest x (2 * h)) (dropped n e K k)

-- ---- it is a half where what is left is one and nothing was dropped
and-false : (a : Bool) → (a && false) ≡ false
and-false true = refl
and-false false = refl

none : (a : Bool) (e : ℕ) → (e ≡ 0 → ⊥) → (a && eqb e 0) ≡ false
none a e h = ap (λ (b : Bool). a && b) (ne_eqb e 0 h) ∙ and-false a

-- r·K + e, with e below K, is h·K where r is h and e is 0
parts_half : (r e h K : ℕ) → e < K → eqb (2 * (r * K + e)) (K * (2 * h)) ≡ (eqb (2 * r) (2 * h) && eqb e 0)
parts_half r e h K k = pick (ℕ_discrete e 0) (ℕ_discrete r h)
  where
    half : K * (2 * h) ≡ 2 * (h * K)
    half = mul_left_comm K 2 h ∙ ap (λ (x : ℕ). 2 * x) (mul_comm K h)

    -- both sides as digits to the base K
    same_rest : r * K + e ≡ h * K → e ≡ 0
    same_rest q = sym (digits_mod r k) ∙ ap (λ (x : ℕ). x % K) (q ∙ sym (add-zero (h * K))) ∙ digits_mod h (omega arith)

    same_whole : r * K + e ≡ h * K → r ≡ h
    same_whole q = sym (digits_div r k) ∙ ap (λ (x : ℕ). x / K) (q ∙ sym (add-zero (h * K))) ∙ digits_div h (omega arith)

    pick : Dec (e ≡ 0) → Dec (r ≡ h) → eqb (2 * (r * K + e)) (K * (2 * h)) ≡ (eqb (2 * r) (2 * h) && eqb e 0)
    pick (yes z) (yes q) =
        eq-eqb (2 * (r * K + e)) (K * (2 * h)) (omega (arith, half, ap (λ (x : ℕ). x * K) q))
        ∙ sym (rw (eq-eqb e 0 z, eq-eqb (2 * r) (2 * h) (omega arith)))
    pick (yes z) (no q) =
        ne_eqb (2 * (r * K + e)) (K * (2 * h)) (λ t. q (same_whole (omega (arith, half, t))))
        ∙ sym (rw (ne_eqb (2 * r) (2 * h) (λ t. q (omega (arith, t)))))
    pick (no z) q =
        ne_eqb (2 * (r * K + e)) (K * (2 * h)) (λ t. z (same_rest (omega (arith, half, t))))
        ∙ sym (none (eqb (2 * r) (2 * h)) e z)

half_below : (n K h : ℕ) → 0 < K → 0 < h → on_half_size n (K * (2 * h)) ≡ (on_half_size (n / K) (2 * h) && eqb (n % K) 0)
unfolding on_half_size
half_below n K h k j =
    let parts : n % (K * (2 * h)) ≡ n / K % (2 * h) * K + n % K = ap (λ (x : ℕ). n % x) (mul_comm K (2 * h)) ∙ mod-mul n (omega arith) k in
    ap (λ (x : ℕ). eqb (2 * x) (K * (2 * h))) parts ∙ parts_half (n / K % (2 * h)) (n % K) h K (mod-lt n k)

-- of a signed number t·K + e, e from 0 to below K
pub half_low : (t : ℤ) (e K h : ℕ) → e < K → 0 < h → on_half (t *ℤ pos K +ℤ pos e) (K * (2 * h)) ≡ (on_half (toward_zero t e) (2 * h) && eqb e 0)
unfolding on_half toward_zero
half_low (pos n) e K h k j =
    half_below (n * K + e) K h (omega arith) j ∙ rw (digits_div n k, digits_mod n k)
half_low (negsuc n) zero K h k j =
    ap (λ (x : ℤ). on_half_size (nat_abs x) (K * (2 * h))) (minus_plus (suc n * K) 0 zero-le)
    ∙ ap (λ (x : ℕ). on_half_size x (K * (2 * h))) (size_minus (pos (suc n * K - 0)) ∙ sub-zero (suc n * K) ∙ sym (add-zero (suc n * K)))
    ∙ half_below (suc n * K + 0) K h k j
    ∙ rw (digits_div (suc n) k, digits_mod (suc n) k)
half_low (negsuc n) (suc e) K h k j =
    let low : suc e ≤ suc n * K = omega (arith, mul-le-mul_right K (zero-le {n = n})) in
    let rest : suc n * K - suc e ≡ n * K + (K - suc e) = omega arith in
    let some : K - suc e < K = omega arith in
    ap (λ (x : ℤ). on_half_size (nat_abs x) (K * (2 * h))) (minus_plus (suc n * K) (suc e) low)
    ∙ ap (λ (x : ℕ). on_half_size x (K * (2 * h))) (size_minus (pos (suc n * K - suc e)) ∙ rest)
    ∙ half_below (n * K + (K - suc e)) K h (omega arith) j
    ∙ none (on_half_size ((n * K + (K - suc e)) / K) (2 * h)) ((n * K + (K - suc e)) % K) (λ z. omega (arith, digits_mod n some))
    ∙ sym (none (on_half_size (nat_abs (neg_ℤ (pos n))) (2 * h)) (suc e) (λ z. omega arith))

-- ---- a wide product in parts
-- p·n, with n split at K: both products of a part are small
pub split : (p n K : ℕ) → p * n ≡ (p * (n / K) + p * (n % K) / K) * K + p * (n % K) % K
split p n K = omega (arith, ap (λ (x : ℕ). p * x) (div-add-mod' n K), div-add-mod' (p * (n % K)) K)

-- a·K + e + d·(H·K) = (a + d·H)·K + e
pub gather : (a e K H : ℕ) (d : ℤ) → pos (a * K + e) +ℤ d *ℤ pos (H * K) ≡ (pos a +ℤ d *ℤ pos H) *ℤ pos K +ℤ pos e
gather a e K H d =
    swap_last (pos (a * K)) (pos e) (d *ℤ pos (H * K))
    ∙ ap (λ (x : ℤ). pos (a * K) +ℤ x +ℤ pos e) (sym (times_assoc d (pos H) (pos K)))
    ∙ ap (λ (x : ℤ). x +ℤ pos e) (sym (sum_times (pos a) (d *ℤ pos H) (pos K)))

-- p·n + d·D, for D = 2h·K, is rounded by D through parts split at K
pub wide_nearest : (p n K h : ℕ) (d : ℤ) → 0 < K → 0 < h
    → nearest (pos (p * n) +ℤ d *ℤ pos (2 * h * K)) (K * (2 * h))
    ≡ nearest (toward_zero (pos (p * (n / K) + p * (n % K) / K) +ℤ d *ℤ pos (2 * h)) (p * (n % K) % K)) (2 * h)
wide_nearest p n K h d k j =
    let whole = p * (n / K) + p * (n % K) / K in
    let rest = p * (n % K) % K in
    ap (λ (m : ℕ). nearest (pos m +ℤ d *ℤ pos (2 * h * K)) (K * (2 * h))) (split p n K)
    ∙ ap (λ (z : ℤ). nearest z (K * (2 * h))) (gather whole rest K (2 * h) d)
    ∙ drop_low (pos whole +ℤ d *ℤ pos (2 * h)) rest K h (mod-lt (p * (n % K)) k) j

-- the same of its half
pub wide_half : (p n K h : ℕ) (d : ℤ) → 0 < K → 0 < h
    → on_half (pos (p * n) +ℤ d *ℤ pos (2 * h * K)) (K * (2 * h))
    ≡ (on_half (toward_zero (pos (p * (n / K) + p * (n % K) / K) +ℤ d *ℤ pos (2 * h)) (p * (n % K) % K)) (2 * h) && eqb (p * (n % K) % K) 0)
wide_half p n K h d k j =
    let whole = p * (n / K) + p * (n % K) / K in
    let rest = p * (n % K) % K in
    ap (λ (m : ℕ). on_half (pos m +ℤ d *ℤ pos (2 * h * K)) (K * (2 * h))) (split p n K)
    ∙ ap (λ (z : ℤ). on_half z (K * (2 * h))) (gather whole rest K (2 * h) d)
    ∙ half_low (pos whole +ℤ d *ℤ pos (2 * h)) rest K h (mod-lt (p * (n % K)) k) j
