-- The input's end: a line that is left is answered like any other. Assumes nothing.
use Rattle.std.proofs.Common.{◌≡◌, ℕ, ◌-◌, ◌≤◌, List, [], ◌∷◌, length, take, refl, sym, ◌∙◌}
use Rattle.std.proofs.lemmas.List.{append-nil, length-take-le}
use Rattle.decimal.specs.Writing.{Wrote}
use Rattle.decimal.proofs.Spelling.{then}
use Rattle.stream.specs.Stream.{last_line}
use Rattle.stream.specs.Pieces.{Way, answers, after, written}
use Rattle.stream.proofs.Cases.{lent}

module _ {A : Type 0} (w : Way A) (a : A) where
  -- nothing is left
  pub none_after : (n : ℕ) (buffer : List ℕ) → n ≡ 0 → a ≡ after w a (last_line (take n buffer))
  unfolding last_line after
  none_after n buffer e = rw e

  pub none_answered : (n : ℕ) (buffer old : List ℕ) → n ≡ 0 → Wrote old old 0 0 (answers w a (last_line (take n buffer)))
  unfolding last_line answers
  none_answered n buffer old e = rw e (record { place = refl; bytes = refl })

  -- a line is left
  last-after : (line : List ℕ) → (length line ≡ 0 → ⊥) → after w a (last_line line) ≡ w.next a line
  unfolding last_line after
  last-after [] h = absurd (h refl)
  last-after (b ∷ line) h = refl

  last-answers : (line : List ℕ) → (length line ≡ 0 → ⊥) → answers w a (last_line line) ≡ w.answer a line
  unfolding last_line answers
  last-answers [] h = absurd (h refl)
  last-answers (b ∷ line) h = append-nil (w.answer a (b ∷ line))

  module _ (n : ℕ) (buffer : List ℕ) (long : n ≤ length buffer) (h : n ≡ 0 → ⊥) where
    some : length (take n buffer) ≡ 0 → ⊥
    some z = h (sym (length-take-le n buffer long) ∙ z)

    pub one_after : (r : A) → r ≡ w.next a (take (n - 0) buffer) → r ≡ after w a (last_line (take n buffer))
    one_after r e = rw (last-after (take n buffer) some, ← lent n buffer) e

    pub one_answered : (old new : List ℕ) (at : ℕ) → Wrote old new 0 at (w.answer a (take (n - 0) buffer)) → Wrote old new 0 at (answers w a (last_line (take n buffer)))
    one_answered old new at v = rw (last-answers (take n buffer) some, ← lent n buffer) v

  -- the closing text behind it
  pub closed : (lines : List (List ℕ)) (old mid new : List ℕ) (i at : ℕ) (r : A) → r ≡ after w a lines → Wrote old mid 0 i (answers w a lines) → Wrote mid new i at (w.close r) → Wrote old new 0 at (written w a lines)
  unfolding written
  closed lines old mid new i at r e v c = then v (rw e at c)
