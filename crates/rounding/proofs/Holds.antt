-- Code in i32 and i64, proved over ℤ. A signed local is its bits n, which an operation reads as `to_z w n`; `Holds w n z B` says that the bits n hold the
-- integer z and that z is at most B in size. `held` and its family say so of parameters, results, literals and casts; `sum`, `difference`, `product` and
-- `minus` say so of an operation's result, and their `-fits` answer what the operation asks. Where the bounds are numerals, the last argument is `tt`.
-- Assumes nothing.
use mathlib.Core.Path.{◌≡◌, refl, ap, ◌∙◌}
use mathlib.Core.Bool.{Bool, true, false}
use Prim.Native.Nat.{ℕ, ◌+◌, ◌*◌, ◌^◌, ◌<◌, ◌≤◌}
use native.Mathlib.Nat.{le_refl, le_trans, lt_of_le_of_lt}
use lib.Dec.{T, ltb, leb, ltb→lt, leb→le}
use lib.IntN.{ℤ, pos, neg_ℤ, nat_abs, ◌+ℤ◌, ◌-ℤ◌, ◌*ℤ◌, +ℤ_idl}
use lib.Signed.{mag, lt_z, le_z, non_neg, nat_abs-le}
use mir.Syntax.{Width, w32}
use mir.Val.{SFits, Fits, hbits, bits, to_z, of_z}
use mir.Facts.{to_z-of_z, to_z_pos}
use Rattle.rounding.specs.Nearest.{with_sign}
use Rattle.rounding.proofs.Sizes.{mag_size, size_minus, sum_most, difference_most, times_most, non_neg_of, minus_non_neg, sign_below, sign_not_below}

-- a record, so that everything is inferred from the operands
pub record Holds (w : Width) (n : ℕ) (z : ℤ) (B : ℕ) : Type 0 where
  pub is : to_z w n ≡ z
  pub size : nat_abs z ≤ B

pub fits : {w : Width} {z : ℤ} → nat_abs z < 2 ^ hbits w → SFits w z
fits {w} {z} h = record { sfits = lt_of_le_of_lt (mag_size z) h }

-- ---- where a number comes from
-- a parameter: `held c.ranges.x BOUND`
pub held : {w : Width} {z : ℤ} {B : ℕ} → SFits w z → nat_abs z ≤ B → Holds w (of_z w z) z B
held h k = record { is = to_z-of_z h; size = k }

-- a call's result: `held_result w c.f.result c.f.type_inv BOUND`
pub held_result : (w : Width) (z : ℤ) {B : ℕ} → mag z < 2 ^ hbits w → nat_abs z ≤ B → Holds w (of_z w z) z B
held_result w z h k = held (record { sfits = h }) k

-- any number with a bound that the width holds
pub held_by : (w : Width) (z : ℤ) {B : ℕ} → nat_abs z ≤ B → T (ltb B (2 ^ hbits w)) → Holds w (of_z w z) z B
held_by w z k t = held (fits (lt_of_le_of_lt k (ltb→lt _ _ t))) k

-- an i32 of which only the type is known: an element of a slice, a result, a parameter
pub size_i32 : {z : ℤ} → SFits w32 z → nat_abs z ≤ 2_147_483_648
size_i32 {z} h = nat_abs-le z h.sfits

pub held_i32 : (z : ℤ) → mag z < 2 ^ 31 → Holds w32 (of_z w32 z) z 2_147_483_648
held_i32 z h = held_result w32 z h (nat_abs-le z h)

-- an unsigned number, cast to a signed type
pub held_size : (w : Width) {n B : ℕ} → n ≤ B → T (ltb B (2 ^ hbits w)) → Holds w n (pos n) B
held_size w {B = B} h t = record { is = to_z_pos w (lt_of_le_of_lt h (ltb→lt B (2 ^ hbits w) t)); size = h }

-- a literal
pub held_literal : (w : Width) (n : ℕ) → T (ltb n (2 ^ hbits w)) → Holds w n (pos n) n
held_literal w n t = held_size w (le_refl n) t

-- bits of which only a bound is known, as where arms meet
pub held_bits : {w : Width} {n B : ℕ} → nat_abs (to_z w n) ≤ B → Holds w n (to_z w n) B
held_bits k = record { is = refl; size = k }

-- ---- an operation on two numbers
module _ {w : Width} {m n : ℕ} {a b : ℤ} {A B : ℕ} (p : Holds w m a A) (q : Holds w n b B) where
  pub sum_fits : T (ltb (A + B) (2 ^ hbits w)) → SFits w (to_z w m +ℤ to_z w n)
  sum_fits t = rw (p.is, q.is) (fits (lt_of_le_of_lt (sum_most a b p.size q.size) (ltb→lt _ _ t)))

  pub sum : T (ltb (A + B) (2 ^ hbits w)) → Holds w (of_z w (to_z w m +ℤ to_z w n)) (a +ℤ b) (A + B)
  sum t = record { is = to_z-of_z (sum_fits t) ∙ cc (p.is, q.is); size = sum_most a b p.size q.size }

  pub difference_fits : T (ltb (A + B) (2 ^ hbits w)) → SFits w (to_z w m -ℤ to_z w n)
  difference_fits t = rw (p.is, q.is) (fits (lt_of_le_of_lt (difference_most a b p.size q.size) (ltb→lt _ _ t)))

  pub difference : T (ltb (A + B) (2 ^ hbits w)) → Holds w (of_z w (to_z w m -ℤ to_z w n)) (a -ℤ b) (A + B)
  difference t = record { is = to_z-of_z (difference_fits t) ∙ cc (p.is, q.is); size = difference_most a b p.size q.size }

  pub product_fits : T (ltb (A * B) (2 ^ hbits w)) → SFits w (to_z w m *ℤ to_z w n)
  product_fits t = rw (p.is, q.is) (fits (lt_of_le_of_lt (times_most a b p.size q.size) (ltb→lt _ _ t)))

  pub product : T (ltb (A * B) (2 ^ hbits w)) → Holds w (of_z w (to_z w m *ℤ to_z w n)) (a *ℤ b) (A * B)
  product t = record { is = to_z-of_z (product_fits t) ∙ cc (p.is, q.is); size = times_most a b p.size q.size }

  -- a test x < y or x <= y
  pub less : {t : Bool} → lt_z (to_z w m) (to_z w n) ≡ t → lt_z a b ≡ t
  less e = cc (p.is, q.is)

  pub at_most : {t : Bool} → le_z (to_z w m) (to_z w n) ≡ t → le_z a b ≡ t
  at_most e = cc (p.is, q.is)

-- ---- an operation on one number
module _ {w : Width} {m : ℕ} {a : ℤ} {A : ℕ} (p : Holds w m a A) where
  pub minus_fits : T (ltb A (2 ^ hbits w)) → SFits w (pos 0 -ℤ to_z w m)
  minus_fits t = rw (p.is, +ℤ_idl (neg_ℤ a)) (fits (rw size_minus (lt_of_le_of_lt p.size (ltb→lt _ _ t))))

  pub minus : T (ltb A (2 ^ hbits w)) → Holds w (of_z w (pos 0 -ℤ to_z w m)) (neg_ℤ a) A
  minus t = record { is = to_z-of_z (minus_fits t) ∙ rw p.is (+ℤ_idl (neg_ℤ a)); size = rw size_minus p.size }

  -- the same number, said in other words, or under another bound
  pub renamed : {b : ℤ} → a ≡ b → Holds w m b A
  renamed e = record { is = p.is ∙ e; size = rw (← e) p.size }

  pub rebounded : {b : ℤ} {B : ℕ} → a ≡ b → nat_abs b ≤ B → Holds w m b B
  rebounded e k = record { is = p.is ∙ e; size = k }

  -- its size, as a callee asks for it
  pub size_below : {k : ℕ} → T (ltb A k) → nat_abs (to_z w m) < k
  size_below t = rw p.is (lt_of_le_of_lt p.size (ltb→lt _ _ t))

  pub size_most : {k : ℕ} → T (leb A k) → nat_abs (to_z w m) ≤ k
  size_most t = rw p.is (le_trans p.size (leb→le _ _ t))

  -- a cast to a signed type of the width v
  pub cast_fits : {v : Width} → T (ltb A (2 ^ hbits v)) → SFits v (to_z w m)
  cast_fits t = rw p.is (fits (lt_of_le_of_lt p.size (ltb→lt _ _ t)))

  pub cast : {v : Width} → T (ltb A (2 ^ hbits v)) → Holds v (of_z v (to_z w m)) a A
  cast t = record { is = to_z-of_z (cast_fits t) ∙ p.is; size = p.size }

  -- the same where the number is known to fit by itself, as −2³¹ does an i32
  pub cast_fits_of : {v : Width} → SFits v a → SFits v (to_z w m)
  cast_fits_of h = rw p.is h

  pub cast_of : {v : Width} → SFits v a → to_z v (of_z v (to_z w m)) ≡ a
  cast_of {v} h = to_z-of_z (cast_fits_of {v = v} h) ∙ p.is

  -- a cast to an unsigned type of a number that is not negative: its size
  pub unsigned_fits : {v : Width} → T (non_neg a) → T (ltb A (2 ^ bits v)) → T (non_neg (to_z w m)) × Fits v (nat_abs (to_z w m))
  unsigned_fits s t = rw p.is (s, record { fits = lt_of_le_of_lt p.size (ltb→lt _ _ t) })

  pub unsigned : nat_abs (to_z w m) ≡ nat_abs a
  unsigned = ap nat_abs p.is

  -- what a test x < 0 shows
  pub not_negative : lt_z (to_z w m) (pos 0) ≡ false → T (non_neg a)
  not_negative e = non_neg_of a (rw p.is at e)

  pub minus_not_negative : lt_z (to_z w m) (pos 0) ≡ true → T (non_neg (neg_ℤ a))
  minus_not_negative e = minus_non_neg a (rw p.is at e)

  pub sign_taken : (z : ℤ) → lt_z (to_z w m) (pos 0) ≡ true → with_sign a z ≡ neg_ℤ z
  sign_taken z e = sign_below a z (rw p.is at e)

  pub sign_left : (z : ℤ) → lt_z (to_z w m) (pos 0) ≡ false → with_sign a z ≡ z
  sign_left z e = sign_not_below a z (rw p.is at e)
