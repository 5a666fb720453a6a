-- A rounding's mark is yes exactly where twice its exact value is a whole odd number: of every rounding that a conversion works. Where it is no, there is one nearest number.
-- Assumes nothing.
use mathlib.Core.Path.{◌≡◌, sym, ap, ◌∙◌}
use mathlib.Core.Bool.{Bool, true, false}
use Prim.Native.Nat.{ℕ, zero, suc, ◌+◌, ◌*◌, ◌-◌, ◌/◌, ◌%◌, ◌<◌, ◌≤◌}
use native.Mathlib.Nat.{add-mul, suc-mul, div-add-mod'}
use native.Mathlib.Decide.{dec_le}
use native.Mathlib.Omega.{arith}
use borrow.Author.Tests.{eq-eqb, eqb-true}
use lib.Arith.{digits_mod}
use lib.Dec.{lit<}
use lib.IntN.{ℤ, pos, negsuc, neg_ℤ, nat_abs, ◌-ℤ◌, ◌*ℤ◌}
use Rattle.rounding.specs.Nearest.{nearest, on_half_size, on_half}
use Rattle.rounding.specs.Between.{exact_between, between_half}
use Rattle.rounding.proofs.Ring.{minus_times}
use Rattle.rounding.proofs.Sizes.{size_minus, size_product}
use Rattle.steps.specs.Steps.{exact_q, exact_x, exact_rise, exact_reduction, exact_seconds, exact_approximate, exact_l, exact_convergence, q_half, size_of_x_half, rise_half, reduction_half, seconds_half, approximate_l_half, size_of_l_half, convergence_half}
use Rattle.promises.specs.Meaning.{Halfway, AsNear, Marks}
use Rattle.rounding.proofs.Apart.{apart, far, mirrored}
use Rattle.promises.proofs.NearestIsNearest.{only_the_nearest}

-- ---- sizes: n = q·d + d/2, so that 2n = (2q + 1)·d
twice-odd : (n d : ℕ) → 2 * (n % d) ≡ d → 2 * n ≡ (2 * (n / d) + 1) * d
twice-odd n d h = omega (arith, div-add-mod' n d, add-mul (2 * (n / d)) 1 d)

odd-rest : (k : ℕ) → (2 * k + 1) % 2 ≡ 1
odd-rest k = omega arith

-- and back: 2n = k·d with k odd leaves half of d
half-rest : (n d k : ℕ) → 0 < d → 2 * n ≡ k * d → k % 2 ≡ 1 → 2 * (n % d) ≡ d
half-rest n d k some e o =
    let j = k / 2 in
    let parts : k ≡ 2 * j + 1 = omega (arith, div-add-mod' k 2) in
    let whole : 2 * n ≡ 2 * (j * d) + d = e ∙ ap (λ (m : ℕ). m * d) parts ∙ omega (arith, add-mul (2 * j) 1 d) in
    let rest : n - j * d < d = omega arith in
    let back : j * d + (n - j * d) ≡ n = omega arith in
    let left : n % d ≡ n - j * d = ap (λ (m : ℕ). m % d) (sym back) ∙ digits_mod j rest in
    omega (arith, left)

-- ---- signed numbers
met : (n : ℤ) (d : ℕ) → on_half n d ≡ true → Halfway n d
unfolding on_half on_half_size
met (pos n) d h =
    record { twice = pos (2 * (n / d) + 1); whole = ap pos (twice-odd n d (eqb-true (2 * (n % d)) d h)); odd = odd-rest (n / d) }
met (negsuc n) d h =
    let k = 2 * (suc n / d) + 1 in
    record {
      twice = neg_ℤ (pos k);
      whole = ap (λ (m : ℕ). neg_ℤ (pos m)) (twice-odd (suc n) d (eqb-true (2 * (suc n % d)) d h)) ∙ sym (minus_times (pos k) (pos d));
      odd = ap (λ (m : ℕ). m % 2) (size_minus (pos k)) ∙ odd-rest (suc n / d);
    }

half_of : (n : ℤ) (d : ℕ) → 0 < d → Halfway n d → on_half n d ≡ true
unfolding on_half on_half_size
half_of n d some h =
    let sizes : 2 * nat_abs n ≡ nat_abs h.twice * d = sym (size_product (pos 2) n) ∙ ap nat_abs h.whole ∙ size_product h.twice (pos d) in
    eq-eqb (2 * (nat_abs n % d)) d (half-rest (nat_abs n) d (nat_abs h.twice) some sizes h.odd)

not-both : (b : Bool) → b ≡ true → b ≡ false → ⊥
not-both b p q = let z : ◌≡◌ {A = ℕ} 0 1 = cc in omega arith

pub half_is_half : (n : ℤ) (d : ℕ) → 0 < d → Marks (on_half n d) n d
half_is_half n d some = record { where_yes = met n d; where_no = λ e h. not-both (on_half n d) (half_of n d some h) e }

size_is_half : (n d : ℕ) → 0 < d → Marks (on_half_size n d) (pos n) d
unfolding on_half
size_is_half n d some = half_is_half (pos n) d some

-- ---- a mark of no: whichever way halves are sent, the nearest is the same
-- n lies d/2 below or above k·d, so that 2n = (2k − 1)·d or (2k + 1)·d
beside : (n d : ℕ) (r : ℤ) → 0 < d → 2 * nat_abs (r *ℤ pos d -ℤ pos n) ≡ d → 2 * (n % d) ≡ d
beside n d (pos zero) some e = half-rest n d 1 some (omega (arith, e, apart (0 * d) n)) (odd-rest 0)
beside n d (pos (suc j)) some e = pick (dec_le (suc j * d) n)
  where
    up : suc j * d ≡ j * d + d
    up = suc-mul j d

    pick : Dec (suc j * d ≤ n) → 2 * (n % d) ≡ d
    pick (yes l) = half-rest n d (2 * (suc j) + 1) some (omega (arith, e, apart (suc j * d) n, add-mul (2 * suc j) 1 d)) (odd-rest (suc j))
    pick (no l) = half-rest n d (2 * j + 1) some (omega (arith, e, up, apart (suc j * d) n, add-mul (2 * j) 1 d)) (odd-rest j)
beside n d (negsuc k) some e = absurd (omega (arith, e, far (suc k * d) n, suc-mul k d))

halfway_off : (n : ℤ) (d : ℕ) (r : ℤ) → 0 < d → 2 * nat_abs (r *ℤ pos d -ℤ n) ≡ d → on_half n d ≡ true
unfolding on_half on_half_size
halfway_off (pos n) d r some e = eq-eqb (2 * (n % d)) d (beside n d r some e)
halfway_off (negsuc n) d r some e =
    eq-eqb (2 * (suc n % d)) d (beside (suc n) d (neg_ℤ r) some (ap (λ (m : ℕ). 2 * m) (mirrored (negsuc n) r d) ∙ e))

pub one-nearest : (n : ℤ) (d : ℕ) (r : ℤ) → 0 < d → on_half n d ≡ false → AsNear n d r → r ≡ nearest n d
one-nearest n d r some none near =
    only_the_nearest n d r some (record { near = near; half = λ e. absurd (not-both (on_half n d) (halfway_off n d r some e) none) })

-- ---- each rounding of a conversion, by its exact value
pub between-marks : (u w : ℤ) (t step : ℕ) → 0 < step → Marks (between_half u w t step) (exact_between u w t step) step
unfolding between_half
between-marks u w t step some = half_is_half (exact_between u w t step) step some

pub q_marks : (s : ℕ) → Marks (q_half s) (pos (exact_q s)) 10_000_000
unfolding q_half
q_marks s = size_is_half (exact_q s) 10_000_000 (lit< tt)

pub x_marks : (h s : ℕ) (a b : ℤ) → Marks (size_of_x_half h s a b) (exact_x h s a b) 10_000_000
unfolding size_of_x_half
x_marks h s a b = half_is_half (exact_x h s a b) 10_000_000 (lit< tt)

pub rise-marks : (v q : ℕ) (c : ℤ) → Marks (rise_half v q c) (exact_rise v q c) 10_000_000
unfolding rise_half
rise-marks v q c = half_is_half (exact_rise v q c) 10_000_000 (lit< tt)

pub reduction-marks : (p x : ℕ) (d : ℤ) → Marks (reduction_half p x d) (exact_reduction p x d) 1_000_000_000_000_000
unfolding reduction_half
reduction-marks p x d = half_is_half (exact_reduction p x d) 1_000_000_000_000_000 (lit< tt)

pub seconds-marks : (span past gap : ℕ) → 0 < gap → Marks (seconds_half span past gap) (pos (exact_seconds span past)) gap
unfolding seconds_half
seconds-marks span past gap some = size_is_half (exact_seconds span past) gap some

pub approximate_marks : (x h : ℕ) → 0 < h → Marks (approximate_l_half x h) (pos (exact_approximate x)) h
unfolding approximate_l_half
approximate_marks x h some = size_is_half (exact_approximate x) h some

pub l_marks : (x : ℕ) (a b : ℤ) (h : ℕ) → 0 < h → Marks (size_of_l_half x a b h) (exact_l x a b) h
unfolding size_of_l_half
l_marks x a b h some = half_is_half (exact_l x a b) h some

pub convergence-marks : (m : ℕ) (x : ℤ) → Marks (convergence_half m x) (exact_convergence m x) 100_000_000
unfolding convergence_half
convergence-marks m x = half_is_half (exact_convergence m x) 100_000_000 (lit< tt)
