-- Which count a float is, read off its bits. The definition speaks of the float's value m·2ᵉ, and the code sees the fields: a sign, eleven bits of exponent, 52 of digits.
-- Assumes nothing.
use mathlib.Core.Path.{◌≡◌, refl, sym, ap, ◌∙◌}
use mathlib.Core.Bool.{Bool, true, false, ◌&&◌, cond}
use Prim.Native.Nat.{ℕ, zero, suc, ◌+◌, ◌-◌, ◌*◌, ◌/◌, ◌%◌, ◌^◌, ◌≤◌, ◌<◌}
use native.Mathlib.Nat.{le_trans, le_of_eq, lt_of_lt_of_le, lt_of_le_of_lt, le-suc, le-add_right, le-div_iff_mul-le, one-mul, mul_assoc, mul_right_comm, mul-le-mul_right, mul-pos, zero-mul, add-mul, div-add-mod', mod-lt, mod-eq_of_lt}
use native.Mathlib.Omega.{arith}
use lib.Dec.{T, leb, eqb, eqb-suc-zero, lit≤}
use lib.Pow.{pow-add, pow_pos, pow_mono, shl_lt, shr_lt, shl_exact, field}
use lib.Ieee.{Float, nan, inf, fin, binary64, up, down, odd, of_fields, of_bits, to_bits, fits, is_nan}
use lib.Ieee.Fits.{down_pos}
use lib.Ieee.Bits.{of_bits-to_bits}
use lib.Ieee.Exact.{HasValue, odd_sign}
use lib.Ieee.Nearest.{div_same}
use borrow.Author.Tests.{le-leb, lt-leb, eq-eqb, ne_eqb}
use lib.IntN.{ℤ, pos, neg_ℤ, ◌-ℤ◌, +ℤ_idl}
use mir.Syntax.{w32}
use mir.Val.{SFits, to_z, of_z}
use mir.ValLaws.{to_z_pos, to_z-of_z}
use Rattle.std.specs.Prelude.{Some, None}
use Rattle.counts.specs.Whole.{signed, whole_nat, whole_of}

-- ---- one fraction written in two ways is one count

module _ {c d : ℕ} (C : 0 < c) (D : 0 < d) where
  both_zero : (u v : ℕ) → u * c ≡ v * d → eqb u 0 ≡ eqb v 0
  both_zero zero zero h = refl
  both_zero zero (suc v) h = let p : 0 < suc v * d = mul-pos {m = suc v} (omega arith) D in absurd (omega (arith, zero-mul c))
  both_zero (suc u) zero h = let p : 0 < suc u * c = mul-pos {m = suc u} (omega arith) C in absurd (omega (arith, zero-mul d))
  both_zero (suc u) (suc v) h = eqb-suc-zero u ∙ sym (eqb-suc-zero v)

  same_rest : (a n : ℕ) → a * c ≡ n * d → a / d ≡ n / c → (a % d) * c ≡ (n % c) * d
  same_rest a n h q =
      go (sym (add-mul (a / d * d) (a % d) c) ∙ ap (λ (k : ℕ). k * c) (div-add-mod' a d))
      (sym (add-mul (n / c * c) (n % c) d) ∙ ap (λ (k : ℕ). k * d) (div-add-mod' n c))
      (ap (λ (k : ℕ). k * d * c) q ∙ mul_right_comm (n / c) d c)
      h
    where
      go : {x y u v p r : ℕ} → x + u ≡ p → y + v ≡ r → x ≡ y → p ≡ r → u ≡ v
      go e f g i = omega arith

  same_whole : (s : Bool) (a n : ℕ) → a * c ≡ n * d → whole_nat s a d ≡ whole_nat s n c
  same_whole s a n h =
      let q : a / d ≡ n / c = div_same a d n c D C h in
      let z : eqb (a % d) 0 ≡ eqb (n % c) 0 = both_zero (a % d) (n % c) (same_rest a n h q) in
      cc

pub valued : (x : Float) (s : Bool) (a c : ℕ) → 0 < c → HasValue x s a c → whole_of x ≡ whole_nat s a c
unfolding whole_of
valued nan s a c C h = absurd h
valued (inf t) s a c C h = absurd h
valued (fin t m e) s a c C h = ap (λ (k : Bool). whole_nat k (m * up e) (down e)) h.0 ∙ same_whole C (down_pos e) s (m * up e) a h.1

-- ---- the three ranges of the exponent's field

of_odd : (d : ℕ) (s : Bool) (q k : ℕ) → whole_of (odd d s q k 1074) ≡ whole_nat s (q * 2 ^ k) (2 ^ 1074)
of_odd d s q k = valued (odd d s q k 1074) s (q * 2 ^ k) (2 ^ 1074) (pow_pos 1074) (odd_sign d s q k 1074)

-- a fraction below 1 that is not 0 is no count
below : (s : Bool) (n d : ℕ) → 0 < n → n < d → whole_nat s n d ≡ None
below s n d p h = rw (mod-eq_of_lt h, ne_eqb n 0 (λ (e : n ≡ 0). omega arith))

-- a fraction of 2 ^ 31 or more is no count
above : (s : Bool) (n d : ℕ) → 0 < d → 2147483648 * d ≤ n → whole_nat s n d ≡ None
above s n d D h =
    let q : 2147483648 ≤ n / d = (le-div_iff_mul-le D).1 h in
    rw (lt-leb (n / d) 2147483647 (omega arith)) (go (eqb (n % d) 0))
  where
    go : (b : Bool) → cond (b && false) (Some (signed s (n / d))) None ≡ None
    go true = refl
    go false = refl

-- the value below the top field, under a leading one
led : (s : Bool) (j t : ℕ) → suc j < 2047 → whole_of (of_fields binary64 s (suc j) t) ≡ whole_nat s ((2 ^ 52 + t) * 2 ^ j) (2 ^ 1074)
unfolding of_fields
led s j t h = rw (ne_eqb (suc j) 2047 (λ (e : suc j ≡ 2047). omega arith)) (of_odd 53 s (2 ^ 52 + t) j)

module _ (s : Bool) (t : ℕ) (h : t < 2 ^ 52) where
  zero_is : whole_of (of_fields binary64 s 0 0) ≡ Some (pos 0)
  unfolding whole_of of_fields odd
  zero_is = go s
    where
      go : (b : Bool) → whole_nat b (0 * 1) 1 ≡ Some (pos 0)
      go true = refl
      go false = refl

  small : (e : ℕ) → e < 1023 → 0 < e + t → whole_of (of_fields binary64 s e t) ≡ None
  unfolding of_fields
  small zero g p = of_odd 53 s t 0 ∙ below s (t * 1) (2 ^ 1074) (omega arith) (lt_of_lt_of_le (shl_lt 52 0 h) (pow_mono {i = 52} {j = 1074} (lit≤ tt)))
  small (suc j) g p =
      led s j t (omega arith)
      ∙ below s ((2 ^ 52 + t) * 2 ^ j) (2 ^ 1074) (mul-pos {m = 2 ^ 52 + t} (omega arith) (pow_pos j))
      (lt_of_lt_of_le (shl_lt 53 j (omega arith)) (pow_mono {i = 53 + j} {j = 1074} (omega arith)))

  large : (e : ℕ) → 1053 < e → whole_of (of_fields binary64 s e t) ≡ None
  unfolding whole_of of_fields
  large zero g = absurd (omega arith)
  large (suc j) g = go (eqb (suc j) 2047) (of_odd 53 s q j ∙ above s (q * 2 ^ j) (2 ^ 1074) (pow_pos 1074) big)
    where
      q : ℕ
      q = 2 ^ 52 + t

      big : 2147483648 * 2 ^ 1074 ≤ q * 2 ^ j
      big =
          le_trans (le_of_eq (sym (pow-add 2 31 1074)))
          (le_trans (pow_mono {i = 1105} {j = 52 + j} (omega arith))
          (le_trans (le_of_eq (pow-add 2 52 j)) (mul-le-mul_right (2 ^ j) (le-add_right (2 ^ 52) t))))

      go : (b : Bool) → whole_of (odd 53 s q j 1074) ≡ None → whole_of (cond b (cond (eqb t 0) (inf s) nan) (odd 53 s q j 1074)) ≡ None
      go true e = none (eqb t 0)
        where
          none : (b : Bool) → whole_of (cond b (inf s) nan) ≡ None
          none true = refl
          none false = refl
      go false e = e

  middle : (e : ℕ) → 1023 ≤ e → e ≤ 1053 → whole_of (of_fields binary64 s e t) ≡ whole_nat s (2 ^ 52 + t) (2 ^ (1075 - e))
  middle zero g k = absurd (omega arith)
  middle (suc j) g k =
      let i : 1074 ≡ j + (1075 - suc j) = omega arith in
      led s j t (omega arith)
      ∙ sym (same_whole (pow_pos 1074) (pow_pos (1075 - suc j)) s (2 ^ 52 + t) ((2 ^ 52 + t) * 2 ^ j)
      (ap (λ (n : ℕ). (2 ^ 52 + t) * n) (ap (λ (n : ℕ). 2 ^ n) i ∙ pow-add 2 j (1075 - suc j)) ∙ sym (mul_assoc (2 ^ 52 + t) (2 ^ j) (2 ^ (1075 - suc j)))))

-- ---- what the proof of `whole_of` cites: of a float x that the format holds, by its pattern b

of_bits_is : (b : ℕ) → of_bits binary64 b ≡ of_fields binary64 (leb (2 ^ 63) b) (b / 2 ^ 52 % 2048) (b % 2 ^ 52)
unfolding of_bits
of_bits_is b = ap (λ (e : ℕ). of_fields binary64 (leb (2 ^ 63) b) e (b % 2 ^ 52)) (field b 11 52)

with_lead : (t : ℕ) → t < 2 ^ 52 → 2 ^ 52 + t < 2 ^ 53
with_lead t h = omega arith

opposite_fits : (n : ℕ) → n < 2 ^ 31 → SFits w32 (neg_ℤ (pos n))
opposite_fits zero h = record { sfits = h }
opposite_fits (suc k) h = record { sfits = lt_of_le_of_lt (le-suc k) h }

-- a NaN is no count
pub is_nan_lem : (x : Float) → is_nan x ≡ true → None ≡ whole_of x
unfolding whole_of is_nan
is_nan_lem nan h = refl
is_nan_lem (inf s) h = cc
is_nan_lem (fin s m e) h = cc

module _ (x : Float) (F : T (fits binary64 x)) where
  abbrev b : ℕ
  b = to_bits binary64 x

  read : whole_of x ≡ whole_of (of_fields binary64 (leb (2 ^ 63) b) (b / 2 ^ 52 % 2048) (b % 2 ^ 52))
  read = ap whole_of (sym (of_bits-to_bits binary64 x F) ∙ of_bits_is b)

  low : b % 2 ^ 52 < 2 ^ 52
  low = mod-lt b (pow_pos 52)

  pub is_zero : b % 2 ^ 63 ≡ 0 → Some (pos 0) ≡ whole_of x
  is_zero h =
      let e : b / 2 ^ 52 % 2048 ≡ 0 = omega arith in
      let t : b % 2 ^ 52 ≡ 0 = omega arith in
      sym (read ∙ rw (e, t) (zero_is (leb (2 ^ 63) b) 0 (lit≤ tt)))

  pub is_small : b / 2 ^ 52 % 2048 < 1023 → (b % 2 ^ 63 ≡ 0 → ⊥) → None ≡ whole_of x
  is_small g h = sym (read ∙ small (leb (2 ^ 63) b) (b % 2 ^ 52) low (b / 2 ^ 52 % 2048) g (omega arith))

  pub is_large : 1053 < b / 2 ^ 52 % 2048 → None ≡ whole_of x
  is_large g = sym (read ∙ large (leb (2 ^ 63) b) (b % 2 ^ 52) low (b / 2 ^ 52 % 2048) g)

  -- from 1 to below 2 ^ 31: the digits q under a leading one, in units of the code's shifted 1
  module _ (g : 1023 ≤ b / 2 ^ 52 % 2048) (k : b / 2 ^ 52 % 2048 ≤ 1053) where
    abbrev q : ℕ
    q = 2 ^ 52 + b % 2 ^ 52

    abbrev u : ℕ
    u = 1 * 2 ^ (1075 - b / 2 ^ 52 % 2048) % 2 ^ 64

    unit : u ≡ 2 ^ (1075 - b / 2 ^ 52 % 2048)
    unit = shl_exact 1 (1075 - b / 2 ^ 52 % 2048) 64 (lit≤ tt) (omega arith) ∙ one-mul (2 ^ (1075 - b / 2 ^ 52 % 2048))

    is_middle : whole_of x ≡ whole_nat (leb (2 ^ 63) b) q u
    is_middle = read ∙ middle (leb (2 ^ 63) b) (b % 2 ^ 52) low (b / 2 ^ 52 % 2048) g k ∙ ap (whole_nat (leb (2 ^ 63) b) q) (sym unit)

    pub unit_pos : 0 < u
    unit_pos = rw unit (pow_pos (1075 - b / 2 ^ 52 % 2048))

    pub size_lt : q / u < 2 ^ 31
    size_lt =
        rw unit
        (shr_lt 31 (1075 - b / 2 ^ 52 % 2048)
        (lt_of_lt_of_le (with_lead (b % 2 ^ 52) low) (pow_mono {i = 53} {j = 31 + (1075 - b / 2 ^ 52 % 2048)} (omega arith))))

    pub is_fraction : (q % u ≡ 0 → ⊥) → None ≡ whole_of x
    is_fraction h = sym (is_middle ∙ rw (ne_eqb (q % u) 0 h))

    is_count : (s : Bool) → leb (2 ^ 63) b ≡ s → q % u ≡ 0 → whole_of x ≡ Some (signed s (q / u))
    is_count s e h = is_middle ∙ rw (e, eq-eqb (q % u) 0 h, le-leb (q / u) 2147483647 (omega (arith, size_lt)))

    pub is_plus : q % u ≡ 0 → b < 2 ^ 63 → Some (to_z w32 (q / u)) ≡ whole_of x
    is_plus h l = sym (is_count false (lt-leb (2 ^ 63) b l) h ∙ ap Some (sym (to_z_pos w32 (q / u) size_lt)))

    pub minus_fits : SFits w32 (pos 0 -ℤ to_z w32 (q / u))
    minus_fits = rw (to_z_pos w32 (q / u) size_lt, +ℤ_idl (neg_ℤ (pos (q / u)))) (opposite_fits (q / u) size_lt)

    pub is_minus : q % u ≡ 0 → 2 ^ 63 ≤ b → Some (to_z w32 (of_z w32 (pos 0 -ℤ to_z w32 (q / u)))) ≡ whole_of x
    is_minus h l =
        sym
        (is_count true (le-leb (2 ^ 63) b l) h
        ∙ ap Some
        (sym
        (to_z-of_z w32 (pos 0 -ℤ to_z w32 (q / u)) minus_fits
        ∙ ap (λ (z : ℤ). pos 0 -ℤ z) (to_z_pos w32 (q / u) size_lt)
        ∙ +ℤ_idl (neg_ℤ (pos (q / u))))))
