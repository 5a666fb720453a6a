-- The order of ℤ as tests show it: it is transitive, and adding one number to both sides keeps it. Assumes nothing.
use mathlib.Core.Path.{◌≡◌, refl, sym, ap, subst, ◌∙◌}
use mathlib.Core.Bool.{Bool, true, false, not}
use Prim.Native.Nat.{ℕ, zero, suc, ◌≤◌, ◌<◌}
use native.Mathlib.Nat.{le_refl, le_trans, le_of_lt}
use native.Mathlib.Omega.{arith}
use lib.Dec.{T, leb, leb-zero, leb-suc-suc, leb-suc-zero}
use borrow.Author.Tests.{ltb-true, leb-true, le-leb, lt-leb, not-false}
use lib.IntN.{ℤ, pos, negsuc, suc_ℤ, pred_ℤ, suc-pred, neg_ℤ, ◌+ℤ◌, ◌-ℤ◌, +ℤ_idr, +ℤ_invr, +ℤ-suc_ℤ, +ℤ-pred_ℤ, +ℤ_comm}
use lib.Signed.{le_z, lt_z, non_neg}
use Rattle.rounding.proofs.Ring.{by_steps}
use Rattle.rounding.proofs.Sizes.{le_z-not}

-- ---- a < b is the opposite of b ≤ a
pub above_of : (a b : ℤ) → le_z a b ≡ false → lt_z b a ≡ true
above_of a b e = not-false (lt_z b a) (sym (le_z-not b a) ∙ e)

pub not_above_of : (a b : ℤ) → lt_z b a ≡ true → le_z a b ≡ false
not_above_of a b e = le_z-not b a ∙ ap not e

pub not_below_of : (a b : ℤ) → lt_z a b ≡ false → le_z b a ≡ true
not_below_of a b e = le_z-not a b ∙ ap not e

-- ---- an order
pub le_z-refl : (a : ℤ) → le_z a a ≡ true
le_z-refl (pos a) = le-leb a a (le_refl a)
le_z-refl (negsuc a) = le-leb a a (le_refl a)

pub le_z_trans : (a b c : ℤ) → le_z a b ≡ true → le_z b c ≡ true → le_z a c ≡ true
le_z_trans (pos a) (pos b) (pos c) p q = le-leb a c (le_trans (leb-true a b p) (leb-true b c q))
le_z_trans (pos a) (pos b) (negsuc c) p q = q
le_z_trans (pos a) (negsuc b) c p q = absurd (subst T (sym p) tt)
le_z_trans (negsuc a) b (pos c) p q = refl
le_z_trans (negsuc a) (pos b) (negsuc c) p q = absurd (subst T (sym q) tt)
le_z_trans (negsuc a) (negsuc b) (negsuc c) p q = le-leb c a (le_trans (leb-true c b q) (leb-true b a p))

true_or : (t : Bool) → (t ≡ false → ⊥) → t ≡ true
true_or true h = refl
true_or false h = absurd (h refl)

true-not-false : {t : Bool} → t ≡ true → t ≡ false → ⊥
true-not-false p q = subst T (sym p ∙ q) tt

-- a < b ≤ c, and a ≤ b < c
pub lt_z-le_z : (a b c : ℤ) → lt_z a b ≡ true → le_z b c ≡ true → lt_z a c ≡ true
lt_z-le_z a b c p q = true_or (lt_z a c) (λ e. true-not-false (le_z_trans b c a q (le_z-not a c ∙ ap not e)) (not_above_of b a p))

pub le_z-lt_z : (a b c : ℤ) → le_z a b ≡ true → lt_z b c ≡ true → lt_z a c ≡ true
le_z-lt_z a b c p q = true_or (lt_z a c) (λ e. true-not-false (le_z_trans c a b (le_z-not a c ∙ ap not e) p) (not_above_of c b q))

-- a < b < c
lt_z_weak : (a b : ℤ) → lt_z a b ≡ true → le_z a b ≡ true
lt_z_weak (pos a) (pos b) p = le-leb a b (le_of_lt (ltb-true a b p))
lt_z_weak (pos a) (negsuc b) p = p
lt_z_weak (negsuc a) (pos b) p = refl
lt_z_weak (negsuc a) (negsuc b) p = le-leb b a (le_of_lt (ltb-true b a p))

pub lt_z_trans : (a b c : ℤ) → lt_z a b ≡ true → lt_z b c ≡ true → lt_z a c ≡ true
lt_z_trans a b c p q = lt_z-le_z a b c p (lt_z_weak b c q)

-- what is below is not above
pub lt_z_le : (a b : ℤ) → lt_z a b ≡ true → le_z a b ≡ true
lt_z_le a b h = pick (le_z a b) refl
  where
    pick : (t : Bool) → le_z a b ≡ t → le_z a b ≡ true
    pick true e = e
    pick false e = absurd (subst T (sym (le_z-refl a) ∙ not_above_of a a (lt_z_trans a b a h (above_of a b e))) tt)

-- not both; and where neither is above, they are equal
pub not-both : (a b : ℤ) → le_z a b ≡ true → lt_z b a ≡ true → ⊥
not-both a b h l = subst T (sym h ∙ not_above_of a b l) tt

pub le_z_equal : (a b : ℤ) → le_z a b ≡ true → le_z b a ≡ true → a ≡ b
le_z_equal (pos a) (pos b) h l = ap pos (omega (arith, leb-true a b h, leb-true b a l))
le_z_equal (pos a) (negsuc b) h l = absurd (subst T (sym h) tt)
le_z_equal (negsuc a) (pos b) h l = absurd (subst T (sym l) tt)
le_z_equal (negsuc a) (negsuc b) h l = ap negsuc (omega (arith, leb-true b a h, leb-true a b l))

-- ---- one number added to both sides
le_z-up : (a b : ℤ) → le_z (suc_ℤ a) (suc_ℤ b) ≡ le_z a b
le_z-up (pos a) (pos b) = leb-suc-suc a b
le_z-up (pos a) (negsuc zero) = leb-suc-zero a
le_z-up (pos a) (negsuc (suc b)) = refl
le_z-up (negsuc zero) (pos b) = leb-zero (suc b)
le_z-up (negsuc (suc a)) (pos b) = refl
le_z-up (negsuc zero) (negsuc zero) = refl
le_z-up (negsuc zero) (negsuc (suc b)) = sym (leb-suc-zero b)
le_z-up (negsuc (suc a)) (negsuc zero) = sym (leb-zero (suc a))
le_z-up (negsuc (suc a)) (negsuc (suc b)) = sym (leb-suc-suc b a)

le_z-down : (a b : ℤ) → le_z (pred_ℤ a) (pred_ℤ b) ≡ le_z a b
le_z-down a b = sym (le_z-up (pred_ℤ a) (pred_ℤ b)) ∙ rw (suc-pred a, suc-pred b)

pub le_z_shift : (a b c : ℤ) → le_z (a +ℤ c) (b +ℤ c) ≡ le_z a b
le_z_shift a b c = by_steps (λ (z : ℤ). le_z (a +ℤ z) (b +ℤ z) ≡ le_z a b) base up down c
  where
    base : le_z (a +ℤ pos zero) (b +ℤ pos zero) ≡ le_z a b
    base = rw (+ℤ_idr a, +ℤ_idr b)

    up : (z : ℤ) → le_z (a +ℤ z) (b +ℤ z) ≡ le_z a b → le_z (a +ℤ suc_ℤ z) (b +ℤ suc_ℤ z) ≡ le_z a b
    up z h = rw (+ℤ-suc_ℤ a z, +ℤ-suc_ℤ b z) (le_z-up (a +ℤ z) (b +ℤ z) ∙ h)

    down : (z : ℤ) → le_z (a +ℤ z) (b +ℤ z) ≡ le_z a b → le_z (a +ℤ pred_ℤ z) (b +ℤ pred_ℤ z) ≡ le_z a b
    down z h = rw (+ℤ-pred_ℤ a z, +ℤ-pred_ℤ b z) (le_z-down (a +ℤ z) (b +ℤ z) ∙ h)

-- two heights above one number stand in the order of the heights
pub le_z_heights : (a : ℤ) (m n : ℕ) → le_z (a +ℤ pos m) (a +ℤ pos n) ≡ leb m n
le_z_heights a m n = rw (+ℤ_comm a (pos m), +ℤ_comm a (pos n)) (le_z_shift (pos m) (pos n) a)

pub heights_le : (a : ℤ) {m n : ℕ} → m ≤ n → le_z (a +ℤ pos m) (a +ℤ pos n) ≡ true
heights_le a {m} {n} h = le_z_heights a m n ∙ le-leb m n h

heights_lt : (a : ℤ) {m n : ℕ} → m < n → lt_z (a +ℤ pos m) (a +ℤ pos n) ≡ true
heights_lt a {m} {n} h = above_of (a +ℤ pos n) (a +ℤ pos m) (le_z_heights a n m ∙ lt-leb n m h)

-- a number is below itself and a height
pub below_height : (a : ℤ) {m : ℕ} → 0 < m → lt_z a (a +ℤ pos m) ≡ true
below_height a h = rw (+ℤ_idr a) at (heights_lt a h)

-- ---- b − a, where a is not above b
non_neg-from : (z : ℤ) → le_z (pos 0) z ≡ true → T (non_neg z)
non_neg-from (pos n) e = tt
non_neg-from (negsuc n) e = subst T (sym e) tt

pub difference_non_neg : (a b : ℤ) → le_z a b ≡ true → T (non_neg (b -ℤ a))
difference_non_neg a b e = non_neg-from (b -ℤ a) (rw (+ℤ_invr a) at (le_z_shift a b (neg_ℤ a)) ∙ e)
