-- One turn of a batch: three words are written behind those of the points before. Assumes nothing.
use mathlib.Core.Path.{◌≡◌, refl, sym, ap, ◌∙◌}
use mathlib.Core.Bool.{Bool, true, false, ◌&&◌}
use mathlib.Core.List.{List, ◌++◌}
use Prim.Native.Nat.{ℕ, zero, suc, ◌+◌, ◌*◌, ◌/◌, ◌%◌, ◌≤◌, ◌<◌}
use native.Mathlib.Numerals.{add-one}
use native.Mathlib.Omega.{arith}
use borrow.Author.Tests.{le-leb, lt-leb, eq-eqb, ne_eqb, leb-true}
use lib.Dec.{leb, eqb}
use lib.IntN.{ℤ}
use lib.ListN.{length, drop, length-append, length-drop}
use lib.Seq.{sets, sets-eq, take_at, drop-append-add, drop-drop}
use Rattle.refusals.specs.Ladder.{need}
use Rattle.refusals.proofs.Ladders.{stop, go, is, is_not, refused, passed_on}
use Rattle.sheet_check.specs.Check.{check_of}
use Rattle.extent.specs.Extent.{latitude_known, longitude_known}
use Rattle.forward.specs.Forward.{no_plane, plane_at, plane_from, forward_of}
use Rattle.batch.specs.Batch.{one_if_answered, pairs, point_at, words_of, words, answered, after_pairs, taken, batched, batch_of, answers_of}

-- ---- vs stored behind t, where the old list's tail begins
behind : {A : Type 0} (t old vs : List A) (k : ℕ) → length t ≡ k → k + length vs ≤ length old
    → sets (t ++ drop k old) k vs ≡ (t ++ vs) ++ drop (k + length vs) old
behind t old vs k e h =
    sets-eq vs (t ++ drop k old) k (simp (length-append, length-drop) (omega arith))
    ∙ rw (take_at t (drop k old) k e, ← e, drop-append-add, drop-drop)

-- ---- of a sheet's points
module _ (s : List ℕ) (points : List ℤ) where
  pub length-words : (n : ℕ) → length (words s points n) ≡ 3 * n
  unfolding words
  length-words zero = refl
  length-words (suc n) = simp (length-append, length-words n) (omega arith)

  pub written : (old : List ℤ) (i : ℕ) → 3 * i + 3 ≤ length old → sets (after_pairs s points i old) (3 * i) (words_of (point_at s points i)) ≡ after_pairs s points (i + 1) old
  unfolding words
  written old i h =
      let e : 3 * (i + 1) ≡ 3 * i + 3 = omega arith in
      behind (words s points i) old (words_of (point_at s points i)) (3 * i) (length-words i) h ∙ rw (e, add-one i)

  pub counted : (i : ℕ) → answered s points i + one_if_answered (point_at s points i).number ≡ answered s points (i + 1)
  unfolding answered
  counted i = rw (add-one i)

-- ---- a conversion's own number is a small one
pub number_small : (s : List ℕ) (a b : ℤ) → (forward_of s a b).number < 2_147_483_648
unfolding forward_of need plane_at plane_from
number_small s a b = go (latitude_known s a) (longitude_known s b)
  where
    go : (p q : Bool) → (need p (no_plane 10) (need q (no_plane 11) (plane_at s a b))).number < 2_147_483_648
    go false q = omega arith
    go true false = omega arith
    go true true = omega arith

-- ---- which batches are taken
after : (a : Bool) → a && false ≡ false
after true = refl
after false = refl

module _ (m k : ℕ) where
  pub odd : (m % 2 ≡ 0 → ⊥) → false ≡ taken m k
  unfolding taken
  odd h = rw (ne_eqb (m % 2) 0 h)

  pub many : 4_096 < m / 2 → false ≡ taken m k
  unfolding taken
  many h = rw (lt-leb (m / 2) 4_096 h, after (eqb (m % 2) 0))

  pub narrow : m % 2 ≡ 0 → m / 2 ≤ 4_096 → leb (3 * (m / 2)) k ≡ taken m k
  unfolding taken
  narrow h i = rw (eq-eqb (m % 2) 0 h, le-leb (m / 2) 4_096 i)

  pub room : taken m k ≡ true → (m / 2 ≤ 4_096) × (3 * (m / 2) ≤ k)
  unfolding taken
  room h = split (eqb (m % 2) 0) (leb (m / 2) 4_096) (leb (3 * (m / 2)) k) refl refl h
    where
      split : (a b c : Bool) → leb (m / 2) 4_096 ≡ b → leb (3 * (m / 2)) k ≡ c → a && b && c ≡ true → (m / 2 ≤ 4_096) × (3 * (m / 2) ≤ k)
      split true true true p q e = (leb-true (m / 2) 4_096 p, leb-true (3 * (m / 2)) k q)
      split true true false p q e = let z : ◌≡◌ {A = ℕ} 0 1 = cc in absurd (omega arith)
      split true false c p q e = let z : ◌≡◌ {A = ℕ} 0 1 = cc in absurd (omega arith)
      split false b c p q e = let z : ◌≡◌ {A = ℕ} 0 1 = cc in absurd (omega arith)

-- ---- a batch's answer, and the memory after it
module _ (s : List ℕ) (points old : List ℤ) where
  pub refused_17 : (f : Bool) → f ≡ taken (length points) (length old) → f ≡ false → (batched 17 0 ≡ batch_of s points old) × (old ≡ answers_of s points old)
  unfolding batch_of answers_of
  refused_17 f h e =
      let r : batched 17 0 ≡ batch_of s points old = stop _ f (batched 17 0) _ h e in
      (r, is_not _ 0 _ _ old (λ z. nonzero (ap (λ b. b.number) r ∙ z)) refl)
    where
      nonzero : ◌≡◌ {A = ℕ} 17 0 → ⊥
      nonzero z = omega arith

  pub refused_check : (f : Bool) (n : ℕ) → f ≡ taken (length points) (length old) → f ≡ true → n ≡ (check_of s).number → (n ≡ 0 → ⊥)
      → (batched n 0 ≡ batch_of s points old) × (old ≡ answers_of s points old)
  unfolding batch_of answers_of
  refused_check f n h e m z =
      let r : batched n 0 ≡ batch_of s points old = go _ f (batched 17 0) (batched n 0) _ h e (refused (λ b. b.number) (batched (check_of s).number 0) _ (batched n 0) (rw m) z) in
      (r, is_not _ 0 _ _ old (λ k. z (ap (λ b. b.number) r ∙ k)) refl)

  pub all_answered : (f : Bool) (n count : ℕ) (new : List ℤ) → f ≡ taken (length points) (length old) → f ≡ true → n ≡ (check_of s).number → n ≡ 0
      → count ≡ answered s points (pairs points) → new ≡ after_pairs s points (pairs points) old
      → (batched 0 count ≡ batch_of s points old) × (new ≡ answers_of s points old)
  unfolding batch_of answers_of
  all_answered f n count new h e m z k w =
      let r : batched 0 count ≡ batch_of s points old = go _ f (batched 17 0) (batched 0 count) _ h e (passed_on (λ b. b.number) (batched (check_of s).number 0) _ (batched (check_of s).number 0) refl (batched 0 count) (sym m ∙ z) (rw k)) in
      (r, is _ 0 _ _ new (sym (ap (λ b. b.number) r)) w)
