-- What a batch answers and writes on a sheet that passes: 17 or every point, point i's three words from word 3i on, and the tail as it was. Assumes nothing.
use mathlib.Core.Path.{◌≡◌, refl, sym, ap, ◌∙◌}
use mathlib.Core.Bool.{Bool, true, false}
use mathlib.Core.List.{List, ◌++◌}
use Prim.Native.Nat.{ℕ, zero, suc, ◌+◌, ◌-◌, ◌*◌, ◌<◌, ◌≤◌}
use native.Mathlib.Decide.{dec_lt}
use native.Mathlib.Omega.{arith}
use lib.IntN.{ℤ, pos}
use lib.ListN.{length, get_or, drop, get_or-append}
use lib.Seq.{get_or-append-add, get_or-drop}
use Rattle.refusals.specs.Ladder.{need, where_is}
use Rattle.refusals.proofs.Ladders.{past, passed_on}
use Rattle.sheet_check.specs.Check.{check_of}
use Rattle.batch.specs.Batch.{BatchedTold}
use Rattle.batch.specs.Batch.{pairs, point_at, words_of, words, answered, after_pairs, taken, batched, batch_of, answers_of}
use Rattle.batch.proofs.Turns.{length-words}

-- ---- point i's words among those of the first n
module _ (s : List ℕ) (points : List ℤ) where
  among : (n i k : ℕ) → i < n → k < 3 → get_or (words s points n) (3 * i + k) (pos 0) ≡ get_or (words_of (point_at s points i)) k (pos 0)
  unfolding words
  among zero i k l h = absurd (omega arith)
  among (suc n) i k l h = pick (dec_lt i n) (λ m. among n i k m h)
    where
      pick : Dec (i < n) → (i < n → get_or (words s points n) (3 * i + k) (pos 0) ≡ get_or (words_of (point_at s points i)) k (pos 0))
          → get_or (words s points n ++ words_of (point_at s points n)) (3 * i + k) (pos 0) ≡ get_or (words_of (point_at s points i)) k (pos 0)
      pick (yes m) earlier = get_or-append (words s points n) (words_of (point_at s points n)) (pos 0) (3 * i + k) (omega (arith, length-words s points n)) ∙ earlier m
      pick (no m) earlier =
          let e : n ≡ i = omega arith in
          let g : 3 * i + k ≡ length (words s points n) + k = omega (arith, length-words s points n) in
          ap (λ (j : ℕ). get_or (words s points n ++ words_of (point_at s points n)) j (pos 0)) g
          ∙ get_or-append-add (words s points n) (words_of (point_at s points n)) k (pos 0)
          ∙ ap (λ (j : ℕ). get_or (words_of (point_at s points j)) k (pos 0)) e

-- ---- on a sheet that passes
module _ (s : List ℕ) (ok : (check_of s).number ≡ 0) (points old : List ℤ) where
  abbrev n : ℕ
  n = pairs points

  abbrev all : BatchedTold
  all = batched 0 (answered s points n)

  pub answer_on_pass : batch_of s points old ≡ need (taken (length points) (length old)) (batched 17 0) (batched 0 (answered s points (pairs points)))
  unfolding batch_of
  answer_on_pass =
      ap (need (taken (length points) (length old)) (batched 17 0))
      (sym (passed_on (λ b. b.number) (batched (check_of s).number 0) all (batched (check_of s).number 0) refl all ok refl))

  pub memory_on_pass : answers_of s points old ≡ need (taken (length points) (length old)) old (after_pairs s points (pairs points) old)
  unfolding answers_of need where_is
  memory_on_pass = ap (λ (b : BatchedTold). where_is b.number 0 (after_pairs s points n old) old) answer_on_pass ∙ pick (taken (length points) (length old))
    where
      pick : (t : Bool) → where_is (need t (batched 17 0) all).number 0 (after_pairs s points n old) old ≡ need t old (after_pairs s points n old)
      pick true = refl
      pick false = refl

  -- a batch that is taken
  module _ (is : taken (length points) (length old) ≡ true) where
    memory-taken : answers_of s points old ≡ after_pairs s points n old
    memory-taken = memory_on_pass ∙ past old (after_pairs s points n old) is

    pub point_words : (i k : ℕ) → i < pairs points → k < 3 → get_or (answers_of s points old) (3 * i + k) (pos 0) ≡ get_or (words_of (point_at s points i)) k (pos 0)
    point_words i k l h =
        ap (λ (m : List ℤ). get_or m (3 * i + k) (pos 0)) memory-taken
        ∙ get_or-append (words s points n) (drop (3 * n) old) (pos 0) (3 * i + k) (omega (arith, length-words s points n))
        ∙ among s points n i k l h

    pub tail_stays : (j : ℕ) → 3 * pairs points ≤ j → get_or (answers_of s points old) j (pos 0) ≡ get_or old j (pos 0)
    tail_stays j l =
        let g : j ≡ length (words s points n) + (j - 3 * n) = omega (arith, length-words s points n) in
        let f : 3 * n + (j - 3 * n) ≡ j = omega arith in
        ap (λ (m : List ℤ). get_or m j (pos 0)) memory-taken
        ∙ ap (λ (i : ℕ). get_or (after_pairs s points n old) i (pos 0)) g
        ∙ get_or-append-add (words s points n) (drop (3 * n) old) (j - 3 * n) (pos 0)
        ∙ get_or-drop (3 * n) old (j - 3 * n) (pos 0)
        ∙ ap (λ (i : ℕ). get_or old i (pos 0)) f
