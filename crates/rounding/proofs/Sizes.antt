-- The size of an integer, `nat_abs`: of a sum, a difference, a product, and of a number with a sign put to it; and what a test of order says of sizes.
-- Assumes nothing.
use mathlib.Core.Path.{◌≡◌, refl, sym, ap, ◌∙◌, subst}
use mathlib.Core.Bool.{Bool, true, false, not, cond}
use Prim.Native.Nat.{ℕ, zero, suc, ◌+◌, ◌*◌, ◌-◌, ◌<◌, ◌≤◌, zero-le, suc-le-suc}
use native.Mathlib.Nat.{le_refl, le-suc, le_trans, add-le-add, mul-le-mul}
use native.Mathlib.Omega.{arith}
use lib.Dec.{T, ltb, leb}
use borrow.Author.Tests.{ltb-true, ltb-false, leb-true, lt-ltb, le-ltb, le-leb, lt-leb}
use lib.IntN.{ℤ, pos, negsuc, neg_ℤ, nat_abs, sub_ℕ, ◌+ℤ◌, ◌-ℤ◌, ◌*ℤ◌}
use lib.Signed.{mag, lt_z, le_z, non_neg}
use Rattle.rounding.specs.Nearest.{with_sign}

-- a bound of a product, from bounds of its factors: of numerals the bound is a numeral
pub product_most : (A B : ℕ) {a b : ℕ} → a ≤ A → b ≤ B → a * b ≤ A * B
product_most A B h k = mul-le-mul h k

-- what the machine compares with half a width's power is at most the size
pub mag_size : (z : ℤ) → mag z ≤ nat_abs z
mag_size (pos n) = le_refl n
mag_size (negsuc n) = le-suc n

pub size_minus : (z : ℤ) → nat_abs (neg_ℤ z) ≡ nat_abs z
size_minus (pos zero) = refl
size_minus (pos (suc n)) = refl
size_minus (negsuc n) = refl

-- ---- a difference of two sizes
pub sub_ℕ_le : {a b : ℕ} → b ≤ a → sub_ℕ a b ≡ pos (a - b)
sub_ℕ_le {a} {b} h = rw (le-ltb a b h)

pub sub_ℕ_lt : {a b : ℕ} → a < b → sub_ℕ a b ≡ negsuc (b - suc a)
sub_ℕ_lt {a} {b} h = rw (lt-ltb a b h)

pub pos_minus : (a b : ℕ) → pos a -ℤ pos b ≡ sub_ℕ a b
pos_minus a zero = ap pos (omega arith) ∙ sym (sub_ℕ_le {a = a} {b = zero} (omega arith))
pos_minus a (suc b) = refl

-- what is at most n in size does not turn n negative
pub sum_non_neg : (n : ℕ) (z : ℤ) → nat_abs z ≤ n → T (non_neg (pos n +ℤ z))
sum_non_neg n (pos m) h = tt
sum_non_neg n (negsuc m) h = rw (sub_ℕ_le {a = n} {b = suc m} h) tt

pub times_non_neg : (z : ℤ) (n : ℕ) → T (non_neg z) → T (non_neg (z *ℤ pos n))
times_non_neg (pos m) n h = tt
times_non_neg (negsuc m) n h = absurd h

either_most : (k : ℕ) (t : Bool) (x y : ℤ) → (t ≡ true → nat_abs x ≤ k) → (t ≡ false → nat_abs y ≤ k) → nat_abs (cond t x y) ≤ k
either_most k true x y f g = f refl
either_most k false x y f g = g refl

size_sub_ℕ : (a b : ℕ) → nat_abs (sub_ℕ a b) ≤ a + b
size_sub_ℕ a b =
    either_most (a + b) (ltb a b) (negsuc (b - suc a)) (pos (a - b))
    (λ e. let h : a < b = ltb-true a b e in omega arith)
    (λ e. omega arith)

-- ---- sums, differences and products
pub size_sum : (a b : ℤ) → nat_abs (a +ℤ b) ≤ nat_abs a + nat_abs b
size_sum (pos a) (pos b) = le_refl (a + b)
size_sum (pos a) (negsuc b) = size_sub_ℕ a (suc b)
size_sum (negsuc a) (pos b) = omega (arith, size_sub_ℕ b (suc a))
size_sum (negsuc a) (negsuc b) = omega arith

pub size_difference : (a b : ℤ) → nat_abs (a -ℤ b) ≤ nat_abs a + nat_abs b
size_difference a b = omega (arith, size_sum a (neg_ℤ b), size_minus b)

pub size_product : (a b : ℤ) → nat_abs (a *ℤ b) ≡ nat_abs a * nat_abs b
size_product (pos a) (pos b) = refl
size_product (pos a) (negsuc b) = size_minus (pos (a * suc b))
size_product (negsuc a) (pos b) = size_minus (pos (suc a * b))
size_product (negsuc a) (negsuc b) = refl

pub square_is : (z : ℤ) → z *ℤ z ≡ pos (nat_abs z * nat_abs z)
square_is (pos n) = refl
square_is (negsuc n) = refl

module _ (a b : ℤ) {A B : ℕ} (p : nat_abs a ≤ A) (q : nat_abs b ≤ B) where
  pub sum_most : nat_abs (a +ℤ b) ≤ A + B
  sum_most = le_trans (size_sum a b) (add-le-add p q)

  pub difference_most : nat_abs (a -ℤ b) ≤ A + B
  difference_most = le_trans (size_difference a b) (add-le-add p q)

  pub times_most : nat_abs (a *ℤ b) ≤ A * B
  times_most = rw size_product (mul-le-mul p q)

-- ---- the sign, as a test against zero shows it
pub non_neg_of : (z : ℤ) → lt_z z (pos 0) ≡ false → T (non_neg z)
non_neg_of (pos n) e = tt
non_neg_of (negsuc n) e = subst T e tt

pub minus_non_neg : (z : ℤ) → lt_z z (pos 0) ≡ true → T (non_neg (neg_ℤ z))
minus_non_neg (pos zero) e = tt
minus_non_neg (pos (suc n)) e = subst T (sym e ∙ le-ltb (suc n) 0 zero-le) tt
minus_non_neg (negsuc n) e = tt

pub sign_below : (l z : ℤ) → lt_z l (pos 0) ≡ true → with_sign l z ≡ neg_ℤ z
unfolding with_sign
sign_below (pos n) z e = absurd (subst T (sym e ∙ le-ltb n 0 zero-le) tt)
sign_below (negsuc n) z e = refl

pub sign_not_below : (l z : ℤ) → lt_z l (pos 0) ≡ false → with_sign l z ≡ z
unfolding with_sign
sign_not_below (pos n) z e = refl
sign_not_below (negsuc n) z e = absurd (subst T e tt)

pub size_with_sign : (l z : ℤ) → nat_abs (with_sign l z) ≡ nat_abs z
unfolding with_sign
size_with_sign (pos n) z = refl
size_with_sign (negsuc n) z = size_minus z

-- ---- tests of order
opposite : (t u : Bool) → (t ≡ true → u ≡ false) → (t ≡ false → u ≡ true) → u ≡ not t
opposite true u f g = f refl
opposite false u f g = g refl

leb-not : (a b : ℕ) → leb b a ≡ not (ltb a b)
leb-not a b = opposite (ltb a b) (leb b a) (λ e. lt-leb b a (ltb-true a b e)) (λ e. le-leb b a (ltb-false a b e))

-- b ≤ a is the opposite of a < b
pub le_z-not : (a b : ℤ) → le_z b a ≡ not (lt_z a b)
le_z-not (pos a) (pos b) = leb-not a b
le_z-not (pos a) (negsuc b) = refl
le_z-not (negsuc a) (pos b) = refl
le_z-not (negsuc a) (negsuc b) = leb-not b a

-- −n ≤ z ≤ n bounds the size
pub within_size : (z : ℤ) (n : ℕ) → le_z (neg_ℤ (pos n)) z ≡ true → le_z z (pos n) ≡ true → nat_abs z ≤ n
within_size (pos z) n p q = leb-true z n q
within_size (negsuc z) zero p q = absurd (subst T (sym p) tt)
within_size (negsuc z) (suc n) p q = suc-le-suc (leb-true z n p)

-- numbers that are not negative stand in the order of their sizes
pub lt_z_sizes : (a b : ℤ) → T (non_neg a) → T (non_neg b) → lt_z a b ≡ ltb (nat_abs a) (nat_abs b)
lt_z_sizes (pos a) (pos b) s t = refl
lt_z_sizes (pos a) (negsuc b) s t = absurd t
lt_z_sizes (negsuc a) b s t = absurd s

pub le_z_sizes : (a b : ℤ) → T (non_neg a) → T (non_neg b) → le_z a b ≡ leb (nat_abs a) (nat_abs b)
le_z_sizes (pos a) (pos b) s t = refl
le_z_sizes (pos a) (negsuc b) s t = absurd t
le_z_sizes (negsuc a) b s t = absurd s

-- ---- a number that is a size
-- x is a size from least to most
pub record Size (least : ℕ) (x : ℤ) (most : ℕ) : Type 0 where
  pub is : x ≡ pos (nat_abs x)
  pub low : least ≤ nat_abs x
  pub high : nat_abs x ≤ most

-- so it is not negative
pub size_non_neg : {least most : ℕ} {x : ℤ} → Size least x most → T (non_neg x)
size_non_neg h = rw h.is tt

-- what was worked as a size r
pub size_from : {r most : ℕ} {x : ℤ} → pos r ≡ x → nat_abs x ≤ most → Size 0 x most
size_from e h = record { is = sym e ∙ ap (λ (z : ℤ). pos (nat_abs z)) e; low = zero-le; high = h }
