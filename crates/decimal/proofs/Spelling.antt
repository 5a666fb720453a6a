-- Bytes stored one after another, and a number's digits stored from the last one back. Assumes nothing.
use mathlib.Core.Path.{◌≡◌, refl, sym, ap, ◌∙◌}
use mathlib.Core.List.{List, [], ◌∷◌, ◌++◌}
use Prim.Native.Nat.{ℕ, zero, suc, ◌+◌, ◌-◌, ◌*◌, ◌/◌, ◌%◌, ◌^◌, ◌≤◌, ◌<◌}
use native.Mathlib.Nat.{le_antisymm}
use native.Mathlib.Numerals.{add-one}
use native.Mathlib.Omega.{arith}
use mathlib.Core.Bool.{true, false}
use borrow.Author.Tests.{ltb-true}
use lib.IntN.{ℤ, pos, negsuc, nat_abs}
use lib.Signed.{lt_z}
use lib.ListN.{length, set, length-append}
use lib.Seq.{sets, set_comm}
use Rattle.refusals.proofs.Ladders.{below, beyond}
use Rattle.decimal.specs.Counting.{Counting}
use Rattle.decimal.proofs.DigitsRead.{powers}
use Rattle.decimal.specs.Writing.{digits_needed_from, digits_needed, spelled, size_text, number_text, Wrote}

-- ---- a run of stores after another is the run of both
pub sets-after : {A : Type 0} (l : List A) (i j : ℕ) (a b : List A) → j ≡ i + length a → sets (sets l i a) j b ≡ sets l i (a ++ b)
sets-after l i j [] b e = let f : j ≡ i = omega (arith, e) in rw f
sets-after l i j (x ∷ a) b e = sets-after (set l i x) (suc i) j a b (omega (arith, e))

-- ---- a store behind a run may come before it
set_first : {A : Type 0} (l : List A) (i j : ℕ) (a : List A) (x : A) → i + length a ≤ j → set (sets l i a) j x ≡ sets (set l j x) i a
set_first l i j [] x h = refl
set_first l i j (y ∷ a) x h = set_first (set l i y) (suc i) j a x (omega (arith, h)) ∙ ap (λ l. sets l (suc i) a) (set_comm l i j y x (λ e. omega (arith, h, e)))

length-spelled : (k v : ℕ) → length (spelled k v) ≡ k
unfolding spelled
length-spelled zero v = refl
length-spelled (suc k) v = simp (length-append, length-spelled k (v / 10)) (omega arith)

-- ---- the last digit first, then those before it
pub last_first : (l : List ℕ) (at k v : ℕ) → sets (set l (at + k) (48 + v % 10)) at (spelled k (v / 10)) ≡ sets l at (spelled (k + 1) v)
unfolding spelled
last_first l at k v =
    let n = length-spelled k (v / 10) in
    sym (set_first l at (at + k) (spelled k (v / 10)) (48 + v % 10) (omega (arith, n)))
    ∙ sets-after l at (at + k) (spelled k (v / 10)) ((48 + v % 10) ∷ []) (omega (arith, n))
    ∙ rw (add-one k)

pub none_left : (l : List ℕ) (at v : ℕ) → sets l at (spelled 0 v) ≡ l
unfolding spelled
none_left l at v = refl

-- tens and units of the last two digits
tens : (v : ℕ) → v / 10 ≡ 10 * (v / 100) + v % 100 / 10
tens v = le_antisymm (omega arith) (omega arith)

tens_last : (v : ℕ) → v % 100 / 10 ≡ v / 10 % 10
tens_last v = le_antisymm (omega (arith, tens v)) (omega (arith, tens v))

hundreds : (v : ℕ) → v / 100 ≡ v / 10 / 10
hundreds v = le_antisymm (omega (arith, tens v)) (omega (arith, tens v))

-- two digits at a time
pub last-two_first : (l : List ℕ) (at k v : ℕ) → sets (set (set l (at + k + 1) (48 + v % 100 % 10)) (at + k) (48 + v % 100 / 10)) at (spelled k (v / 100)) ≡ sets l at (spelled (k + 2) v)
last-two_first l at k v =
    let a : at + k + 1 ≡ at + (k + 1) = omega arith in
    let b : v % 100 % 10 ≡ v % 10 = omega (arith, tens v) in
    let e : k + 1 + 1 ≡ k + 2 = omega arith in
    rw (a, b, tens_last v, hundreds v) (last_first (set l (at + (k + 1)) (48 + v % 10)) at k (v / 10) ∙ rw e at (last_first l at (k + 1) v))

pub last-one_first : (l : List ℕ) (at v : ℕ) → set l at (48 + v % 10) ≡ sets l at (spelled 1 v)
last-one_first l at v = let a : at + 0 ≡ at = omega arith in rw (a, none_left) at (last_first l at 0 v)

-- ---- how many digits there are
module _ (left limit k v : ℕ) where
  pub enough : v < limit → k ≡ digits_needed_from (left + 1) limit k v
  unfolding digits_needed_from
  enough h = rw (add-one left) (below v limit k (digits_needed_from left (10 * limit) (k + 1) v) k h refl)

  pub one-more-place : limit ≤ v → digits_needed_from left (10 * limit) (k + 1) v ≡ digits_needed_from (left + 1) limit k v
  unfolding digits_needed_from
  one-more-place h = rw (add-one left) (beyond v limit k (digits_needed_from left (10 * limit) (k + 1) v) (digits_needed_from left (10 * limit) (k + 1) v) h refl)

pub one_place : (v : ℕ) → Counting v 1 10
unfolding digits_needed
one_place v = record { same = refl; power = refl; most = omega arith }

module _ (v k limit : ℕ) (p : Counting v k limit) where
  pub limit_small : k < 19 → limit * 10 < 2 ^ 64
  limit_small h = omega (arith, p.power, powers k (18 - k) 18 (omega arith))

  pub placed : v < limit → k ≡ digits_needed v
  placed h = let e : 19 - k + 1 ≡ 20 - k = omega (arith, p.most) in rw e at (enough (19 - k) limit k v h) ∙ p.same

  pub next_place : k < 19 → limit ≤ v → Counting v (k + 1) (limit * 10)
  next_place l h =
      let e : 19 - k + 1 ≡ 20 - k = omega (arith, p.most) in
      let f : 20 - (k + 1) ≡ 19 - k = omega arith in
      let m : limit * 10 ≡ 10 * limit = omega arith in
      record {
        same = rw (f, m) (rw e at (one-more-place (19 - k) limit k v h) ∙ p.same);
        power = rw (add-one k) (omega (arith, p.power));
        most = omega (arith, l);
      }

  pub last-place : 19 ≤ k → limit ≤ v → 20 ≡ digits_needed v
  unfolding digits_needed_from
  last-place l h =
      let e : k ≡ 19 = omega (arith, p.most, l) in
      one-more-place 0 limit 19 v h ∙ rw e at p.same

pub six_places : (v : ℕ) → 100_000 ≤ v → Counting v 6 1_000_000
six_places v h =
    let two = next_place v 1 10 (one_place v) (omega arith) (omega (arith, h)) in
    let three = next_place v 2 100 two (omega arith) (omega (arith, h)) in
    let four = next_place v 3 1_000 three (omega arith) (omega (arith, h)) in
    let five = next_place v 4 10_000 four (omega arith) (omega (arith, h)) in
    next_place v 5 100_000 five (omega arith) h

pub length_size : (v k : ℕ) → k ≡ digits_needed v → length (size_text v) ≡ k
unfolding size_text
length_size v k e = length-spelled (digits_needed v) v ∙ sym e

pub written_size : (old new : List ℕ) (at v k : ℕ) → k ≡ digits_needed v → new ≡ sets old at (spelled k v) → new ≡ sets old at (size_text v)
unfolding size_text
written_size old new at v k e h = rw (← e) h

-- ---- a text after another
pub then : {old mid new : List ℕ} {at i r : ℕ} {a b : List ℕ} → Wrote old mid at i a → Wrote mid new i r b → Wrote old new at r (a ++ b)
then {old} {mid} {new} {at} {i} {r} {a} {b} p q =
    record {
      place = q.place ∙ rw (p.place, length-append a b) (omega arith);
      bytes = q.bytes ∙ rw p.bytes (sets-after old at i a b p.place);
    }

-- ---- a signed number, after its minus or without one
module _ (old new : List ℕ) (at r size : ℕ) where
  pub after_minus : (v : ℤ) (mid : List ℕ) (next : ℕ) → lt_z v (pos 0) ≡ true → size ≡ nat_abs v → Wrote old mid at next (45 ∷ []) → Wrote mid new next r (size_text size) → Wrote old new at r (number_text v)
  unfolding number_text
  after_minus (pos n) mid next t e p q = absurd (omega (arith, ltb-true n 0 t))
  after_minus (negsuc n) mid next t e p q = rw e at (then p q)

  pub without_minus : (v : ℤ) → lt_z v (pos 0) ≡ false → size ≡ nat_abs v → Wrote old new at r (size_text size) → Wrote old new at r (number_text v)
  unfolding number_text
  without_minus (pos n) t e p = rw e at p
  without_minus (negsuc n) t e p = let z : ◌≡◌ {A = ℕ} 0 1 = cc in absurd (omega arith)
