-- A size with a minus or none is a number of 32 bits exactly where its value fits them. Assumes nothing.
use mathlib.Core.Path.{◌≡◌, refl, ◌∙◌}
use mathlib.Core.Bool.{Bool, true, false, ◌&&◌, cond}
use mathlib.Core.List.{List}
use Prim.Native.Nat.{ℕ, zero, suc, ◌+◌, ◌≤◌, ◌<◌, ◌^◌}
use native.Mathlib.Nat.{lt_of_not-le}
use native.Mathlib.Omega.{arith}
use borrow.Author.Tests.{le-leb, lt-leb, leb-true}
use lib.IntN.{ℤ, pos, negsuc, neg_ℤ, ◌-ℤ◌, +ℤ_idl}
use lib.Dec.{leb, eqb}
use lib.ListN.{drop, get_or}
use lib.Seq.{drop-drop, get_or-drop}
use mir.Syntax.{w32, w64}
use mir.Val.{SFits, to_z, of_z, bool_byte}
use mir.ValLaws.{to_z_pos, to_z-of_z}
use Rattle.std.specs.Prelude.{Result, Ok, Err, Option, Some, None, IfSome, option_and_then}
use Rattle.std.specs.Result.{OkIff, result_ok}
use Rattle.refusals.specs.Ladder.{need}
use Rattle.refusals.specs.Tests.{in_range}
use Rattle.decimal.specs.declared.Digits.{Digits}
use Rattle.decimal.specs.declared.Number.{Number}
use Rattle.decimal.specs.Reading.{digit_count, value_after, digits, digits_of, minus_of, minus_length, number, signed_value, signed, number_of}

-- ---- 64 bits hold the value
wide : (value : ℕ) → value < 10 ^ 10 → SFits w64 (neg_ℤ (pos value))
wide zero h = record { sfits = omega arith }
wide (suc n) h = record { sfits = omega arith }

module _ (value : ℕ) (h : value < 10 ^ 10) where
  pub plus_value : to_z w64 value ≡ pos value
  plus_value = to_z_pos w64 value (omega arith)

  pub minus_value : to_z w64 (of_z w64 (pos 0 -ℤ to_z w64 value)) ≡ neg_ℤ (pos value)
  minus_value = rw (plus_value, +ℤ_idl (neg_ℤ (pos value))) (to_z-of_z w64 (neg_ℤ (pos value)) (wide value h))

-- ---- 32 bits hold it or do not
abbrev fits : ℤ → Bool
fits z = in_range (neg_ℤ (pos 2_147_483_648)) z (pos 2_147_483_647)

held : (z : ℤ) → SFits w32 z → fits z ≡ true
unfolding in_range
held (pos n) h = rw (le-leb n 2_147_483_647 (omega (arith, h.sfits)))
held (negsuc n) h = rw (le-leb n 2_147_483_647 (omega (arith, h.sfits)))

not_held : (z : ℤ) → (SFits w32 z → ⊥) → fits z ≡ false
unfolding in_range
not_held (pos n) h = let g : 2_147_483_647 < n = lt_of_not-le (λ (l : n ≤ 2_147_483_647). h (record { sfits = omega arith })) in rw (lt-leb n 2_147_483_647 g)
not_held (negsuc n) h = let g : 2_147_483_647 < n = lt_of_not-le (λ (l : n ≤ 2_147_483_647). h (record { sfits = omega arith })) in rw (lt-leb n 2_147_483_647 g)

-- a size past the greatest: 2,147,483,647, and one more after a minus
past : (minus : Bool) (value : ℕ) → 2_147_483_647 + minus_length minus < value → fits (signed_value minus value) ≡ false
unfolding in_range
past false v h = rw (lt-leb v 2_147_483_647 (omega (arith, h)))
past true zero h = absurd (omega (arith, h))
past true (suc n) h = rw (lt-leb n 2_147_483_647 (omega (arith, h)))

pub too_large : (minus : Bool) (d : Digits) → 2_147_483_647 + minus_length minus < d.value → None ≡ signed minus d
unfolding signed need
too_large minus d h = rw (past minus d.value h)

byte_is : (minus : Bool) → bool_byte minus ≡ cond minus 1 0
byte_is true = refl
byte_is false = refl

pub byte-most : (minus : Bool) → bool_byte minus ≤ 1
byte-most true = omega arith
byte-most false = omega arith

-- ---- the answer: r is what the code's conversion to 32 bits answers
module _ {E : Type 0} (minus : Bool) (d : Digits) (z : ℤ) (e : z ≡ signed_value minus d.value) where
  pub no_number : (r : Result ℤ E) → OkIff r (SFits w32 z) z → None ≡ result_ok r → None ≡ signed minus d
  unfolding signed need
  no_number (Ok x) f h = cc
  no_number (Err q) f h = rw (not_held (signed_value minus d.value) (rw e at f))

  pub a_number : (r : Result ℤ E) → OkIff r (SFits w32 z) z → (length : ℕ) (x : ℤ) → Some x ≡ result_ok r → length ≡ bool_byte minus
      → Some (number (length + d.count) (to_z w32 (of_z w32 x))) ≡ signed minus d
  unfolding signed need
  a_number (Ok y) f length x h l =
      let y_is : y ≡ signed_value minus d.value = f.1 ∙ e in
      let x_is : x ≡ signed_value minus d.value = cc in
      let fits : SFits w32 (signed_value minus d.value) = rw e at f.0 in
      rw (held (signed_value minus d.value) fits, x_is, to_z-of_z w32 (signed_value minus d.value) fits, l, byte_is minus)
  a_number (Err q) f length x h l = cc

-- ---- the whole of it: b is the byte at the place, and l how long the minus is
module _ (s : List ℕ) (at b l : ℕ) (e : b ≡ get_or s at 0) (f : l ≡ bool_byte (eqb b 45)) where
  sign : eqb (get_or (drop at s) 0 0) 45 ≡ eqb b 45
  sign = let z : at + 0 ≡ at = omega arith in rw (get_or-drop at s 0 0, z, e)

  rest : drop (minus_length (minus_of (drop at s))) (drop at s) ≡ drop (at + l) s
  rest = rw (sign, f, byte_is (eqb b 45)) (drop-drop (cond (eqb b 45) 1 0) at s)

  pub no_number_at : None ≡ digits_of (drop (at + l) s) → None ≡ number_of (drop at s)
  unfolding number_of
  no_number_at h = rw (rest, ← h)

  pub number_is : (d : Digits) (r : Option Number) → Some d ≡ digits_of (drop (at + l) s) → r ≡ signed (eqb b 45) d → r ≡ number_of (drop at s)
  unfolding number_of
  number_is d r h g = rw (rest, ← h, sign) g

-- ---- how long it can be
digits-most : (s : List ℕ) → IfSome (digits_of s) (λ d. d.count ≤ 10)
unfolding digits_of need
digits-most s = go (leb 1 (digit_count s)) (leb (digit_count s) 10) refl
  where
    go : (t u : Bool) → leb (digit_count s) 10 ≡ u → IfSome (need (t && u) None (Some (digits (digit_count s) (value_after 0 s)))) (λ d. d.count ≤ 10)
    go true true e = leb-true (digit_count s) 10 e
    go true false e = tt
    go false u e = tt

signed-most : (minus : Bool) (d : Digits) → d.count ≤ 10 → IfSome (signed minus d) (λ n. n.length ≤ 11)
unfolding signed need
signed-most minus d h = go (fits (signed_value minus d.value)) minus
  where
    go : (t m : Bool) → IfSome (need t None (Some (number (minus_length m + d.count) (signed_value minus d.value)))) (λ n. n.length ≤ 11)
    go true true = omega arith
    go true false = omega arith
    go false m = tt

pub number-most : (s : List ℕ) → IfSome (number_of s) (λ n. n.length ≤ 11)
unfolding number_of
number-most s = go (digits_of (drop (minus_length (minus_of s)) s)) (digits-most (drop (minus_length (minus_of s)) s))
  where
    go : (o : Option Digits) → IfSome o (λ d. d.count ≤ 10) → IfSome (option_and_then (signed (minus_of s)) o) (λ n. n.length ≤ 11)
    go None h = tt
    go (Some d) h = signed-most (minus_of s) d h
