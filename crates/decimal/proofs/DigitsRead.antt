-- Digits read from left to right: after some of them, those that are left give the same count and value. Assumes nothing.
use mathlib.Core.Path.{◌≡◌, refl, sym, ◌∙◌}
use mathlib.Core.List.{List, [], ◌∷◌}
use Prim.Native.Nat.{ℕ, zero, suc, ◌+◌, ◌-◌, ◌*◌, ◌^◌, ◌≤◌, ◌<◌}
use native.Mathlib.Nat.{le_refl}
use native.Mathlib.Numerals.{add-one}
use native.Mathlib.Omega.{arith}
use mathlib.Core.Bool.{not}
use borrow.Author.Tests.{le-leb, lt-leb}
use lib.Dec.{eqb, eqb-suc-zero}
use lib.ListN.{length, drop, get_or, length-drop}
use lib.Seq.{drop-cons, take_all}
use Rattle.std.specs.Prelude.{◌⊎◌, Option, None, IfSome, slice_range}
use Rattle.std.specs.Bool.{then_some}
use Rattle.decimal.specs.declared.Digits.{Digits}
use Rattle.std.proofs.Common.{inl, inr}
use Rattle.std.proofs.Math.ListN.{drop_of_length-le}
use Rattle.refusals.specs.Ladder.{need}
use Rattle.decimal.specs.Reading.{digit_of, digit_count, value_after, digits, digits_of}

-- ---- a byte's digit
digit_is : (b : ℕ) → 48 ≤ b → b ≤ 57 → digit_of b ≡ b - 48
digit_is b l m = rw (le-leb 48 b l, le-leb b 57 m)

none_is : (b : ℕ) → (b < 48) ⊎ (57 < b) → digit_of b ≡ 10
none_is b (inl h) = rw (lt-leb 48 b h)
none_is b (inr h) = rw (lt-leb b 57 h, le-leb 48 b (omega arith))

-- ---- one digit more, or none
module _ (s : List ℕ) (i v : ℕ) (l : i < length s) where
  abbrev b : ℕ
  b = get_or s i 0

  at_front : drop i s ≡ b ∷ drop (i + 1) s
  at_front = drop-cons s i 0 l ∙ rw (add-one i)

  module _ (m : 48 ≤ b) (n : b ≤ 57) where
    more_count : digit_count (drop i s) ≡ suc (digit_count (drop (i + 1) s))
    unfolding digit_count
    more_count = rw (at_front, digit_is b m n, le-leb (b - 48) 9 (omega arith))

    more_value : value_after v (drop i s) ≡ value_after (10 * v + (b - 48)) (drop (i + 1) s)
    unfolding value_after
    more_value = rw (at_front, digit_is b m n, le-leb (b - 48) 9 (omega arith))

  module _ (n : (b < 48) ⊎ (57 < b)) where
    no_count : digit_count (drop i s) ≡ 0
    unfolding digit_count
    no_count = rw (at_front, none_is b n)

    no_value : value_after v (drop i s) ≡ v
    unfolding value_after
    no_value = rw (at_front, none_is b n)

end_count : (s : List ℕ) (i : ℕ) → length s ≤ i → digit_count (drop i s) ≡ 0
unfolding digit_count
end_count s i h = rw (drop_of_length-le s h)

end_value : (s : List ℕ) (i v : ℕ) → length s ≤ i → value_after v (drop i s) ≡ v
unfolding value_after
end_value s i v h = rw (drop_of_length-le s h)

-- ---- of the digits at the front, n are read, of the value v
pub record Read (s : List ℕ) (n v : ℕ) : Type 0 where
  pub count : digit_count s ≡ n + digit_count (drop n s)
  pub value : value_after 0 s ≡ value_after v (drop n s)
  pub small : v < 10 ^ n

pub powers : (n j m : ℕ) → n + j ≡ m → 10 ^ n ≤ 10 ^ m
powers n zero m e = let f : n ≡ m = omega (arith, e) in rw f (le_refl (10 ^ m))
powers n (suc j) m e = omega (arith, powers (suc n) j m (omega (arith, e)))

pub none_read : (s : List ℕ) → Read s 0 0
none_read s = record { count = omega arith; value = refl; small = omega arith }

pub value_small : (s : List ℕ) (n v : ℕ) → Read s n v → n ≤ 10 → v < 10 ^ 10
value_small s n v r h = omega (arith, r.small, powers n (10 - n) 10 (omega arith))

-- those read are all that are there
pub record Ended (s : List ℕ) (n v : ℕ) : Type 0 where
  pub count : digit_count s ≡ n
  pub value : value_after 0 s ≡ v

pub ended_there : (s : List ℕ) (n v : ℕ) → Read s n v → length s ≤ n → Ended s n v
ended_there s n v r h = record { count = omega (arith, r.count, end_count s n h); value = r.value ∙ end_value s n v h }

-- at the byte i behind those read
module _ (s : List ℕ) (n v i : ℕ) (r : Read s n v) (e : n ≡ i) (l : i < length s) where
  pub ended_here : (get_or s i 0 < 48) ⊎ (57 < get_or s i 0) → Ended s n v
  ended_here h =
      let q : Read s i v = rw e at r in
      rw e (record { count = omega (arith, q.count, no_count s i v l h); value = q.value ∙ no_value s i v l h })

  module _ (m : 48 ≤ get_or s i 0) (h : get_or s i 0 ≤ 57) where
    pub one_more : Read s (n + 1) (10 * v + (get_or s i 0 - 48))
    one_more =
        let q : Read s i v = rw e at r in
        rw e
        (record {
          count = omega (arith, q.count, more_count s i v l m h);
          value = q.value ∙ more_value s i v l m h;
          small = rw (add-one i) (omega (arith, q.small));
        })

    pub too_many : n ≡ 10 → None ≡ digits_of s
    unfolding digits_of need
    too_many t =
        let q : Read s i v = rw e at r in
        let k : 10 < digit_count s = omega (arith, q.count, more_count s i v l m h) in
        rw (le-leb 1 (digit_count s) (omega arith), lt-leb (digit_count s) 10 k)

-- ---- what they are: r is what the code answers
pub answered : (s : List ℕ) (n v : ℕ) (r : Option Digits) → Ended s n v → n ≤ 10 → v < 10 ^ 10 → r ≡ then_some (not (eqb n 0)) (digits n v)
    → (r ≡ digits_of s) × IfSome r (λ d. (d.count ≤ 10) × (d.value < 10 ^ 10))
unfolding digits_of need
answered s zero v r e m l h = rw (h, e.count) (refl, tt)
answered s (suc k) v r e m l h = rw (h, e.count, e.value, eqb-suc-zero k, le-leb 1 (suc k) (omega arith), le-leb (suc k) 10 m) (refl, (m, l))

-- ---- from a place on
pub none_past : (s : List ℕ) (at : ℕ) → length s < at → None ≡ digits_of (drop at s)
none_past s at h = let l : length s ≤ at = omega arith in rw (drop_of_length-le s l) (answered [] 0 0 None (ended_there [] 0 0 (none_read []) (omega arith)) (omega arith) (omega arith) refl).0

pub rest_is : (s r : List ℕ) (at : ℕ) → r ≡ slice_range s at (length s) → drop at s ≡ r
rest_is s r at e = sym (e ∙ take_all _ (drop at s) (omega (arith, length-drop at s)))
