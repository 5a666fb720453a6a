-- Whatever the pieces of an input, what is written for its lines is what would be written if it were read at once. Assumes nothing.
use mathlib.Core.Path.{◌≡◌, refl, sym, ap, ◌∙◌}
use mathlib.Core.Bool.{Bool, true, false}
use mathlib.Core.List.{List, [], ◌∷◌, ◌++◌, map, append-nil, append_assoc}
use Prim.Native.Nat.{ℕ, zero, suc}
use native.Mathlib.Omega.{arith}
use lib.Dec.{eqb}
use lib.ListN.{take}
use lib.Seq.{take-take}
use Rattle.stream.specs.Stream.{last_line, lines_from, lines_of, ended_lines, unended, kept_of, most_kept}
use Rattle.stream.specs.Pieces.{Way, answers, after, written, in_pieces, ByFront, joined}
use Rattle.stream.proofs.Splitting.{NoEnd, no_end_none, lines_split, no_line, unended-none, front_none, last_of}

-- ---- a line's first n bytes say its first n bytes with more behind it
take_front : (n : ℕ) (l m : List ℕ) → take n (take n l ++ m) ≡ take n (l ++ m)
take_front zero l m = refl
take_front (suc n) [] m = refl
take_front (suc n) (b ∷ l) m = ap (λ (x : List ℕ). b ∷ x) (take_front n l m)

module _ (n : ℕ) where
  same-last : (line other : List ℕ) → take (suc n) line ≡ take (suc n) other → map (take (suc n)) (last_line line) ≡ map (take (suc n)) (last_line other)
  unfolding last_line
  same-last [] [] e = refl
  same-last [] (b ∷ other) e = let z : ◌≡◌ {A = ℕ} 0 1 = cc in absurd (omega arith)
  same-last (b ∷ line) [] e = let z : ◌≡◌ {A = ℕ} 0 1 = cc in absurd (omega arith)
  same-last (a ∷ line) (b ∷ other) e = ap (λ (x : List ℕ). x ∷ []) e

  same_lines : (text line other : List ℕ) → take (suc n) line ≡ take (suc n) other → map (take (suc n)) (lines_from line text) ≡ map (take (suc n)) (lines_from other text)
  unfolding lines_from
  same_lines [] line other e = same-last line other e
  same_lines (b ∷ text) line other e = go (eqb b 10) refl (same_lines text (line ++ b ∷ []) (other ++ b ∷ []))
    where
      go : (t : Bool) → eqb b 10 ≡ t
          → (take (suc n) (line ++ b ∷ []) ≡ take (suc n) (other ++ b ∷ []) → map (take (suc n)) (lines_from (line ++ b ∷ []) text) ≡ map (take (suc n)) (lines_from (other ++ b ∷ []) text))
          → map (take (suc n)) (lines_from line (b ∷ text)) ≡ map (take (suc n)) (lines_from other (b ∷ text))
      go true t more = rw t (ap (λ (x : List ℕ). x ∷ map (take (suc n)) (lines_from [] text)) e)
      go false t more = rw t (more (sym (take_front (suc n) line (b ∷ [])) ∙ rw e (take_front (suc n) other (b ∷ []))))

module _ {A : Type 0} (w : Way A) where
  -- ---- lines after lines
  pub answers-more : (lines more : List (List ℕ)) (a : A) → answers w a (lines ++ more) ≡ answers w a lines ++ answers w (after w a lines) more
  unfolding answers after
  answers-more [] more a = refl
  answers-more (line ∷ lines) more a = rw (answers-more lines more (w.next a line), append_assoc (w.answer a line) (answers w (w.next a line) lines) (answers w (after w (w.next a line) lines) more))

  pub after_more : (lines more : List (List ℕ)) (a : A) → after w a (lines ++ more) ≡ after w (after w a lines) more
  unfolding after
  after_more [] more a = refl
  after_more (line ∷ lines) more a = after_more lines more (w.next a line)

  written-more : (lines more : List (List ℕ)) (a : A) → written w a (lines ++ more) ≡ answers w a lines ++ written w (after w a lines) more
  unfolding written
  written-more lines more a = rw (answers-more lines more a, after_more lines more a) (append_assoc (answers w a lines) (answers w (after w a lines) more) (w.close (after w (after w a lines) more)))

  -- ---- no line is asked for further than it is kept
  module _ (f : ByFront w) where
    fronts_after : (lines : List (List ℕ)) (a : A) → after w a (map (take most_kept) lines) ≡ after w a lines
    unfolding after
    fronts_after [] a = refl
    fronts_after (line ∷ lines) a = ap (λ (b : A). after w b (map (take most_kept) lines)) (f.state a line) ∙ fronts_after lines (w.next a line)

    fronts_answers : (lines : List (List ℕ)) (a : A) → answers w a (map (take most_kept) lines) ≡ answers w a lines
    unfolding answers
    fronts_answers [] a = refl
    fronts_answers (line ∷ lines) a = rw (f.answered a line, f.state a line) (ap (λ (x : List ℕ). w.answer a line ++ x) (fronts_answers lines (w.next a line)))

    fronts_written : (lines : List (List ℕ)) (a : A) → written w a (map (take most_kept) lines) ≡ written w a lines
    unfolding written
    fronts_written lines a = rw (fronts_after lines a, fronts_answers lines a)

    by_front : (lines more : List (List ℕ)) (a : A) → map (take most_kept) lines ≡ map (take most_kept) more → written w a lines ≡ written w a more
    by_front lines more a e = sym (fronts_written lines a) ∙ ap (written w a) e ∙ fronts_written more a

    -- what is kept of the line that has not ended says as much as the whole of it
    kept_enough : (text rest : List ℕ) (a : A) → written w a (lines_from (unended text) rest) ≡ written w a (lines_of (kept_of text ++ rest))
    unfolding kept_of
    kept_enough text rest a =
        by_front (lines_from (unended text) rest) (lines_from (take most_kept (unended text)) rest) a (same_lines 255 rest (unended text) (take most_kept (unended text)) (sym (take-take most_kept most_kept (unended text) (omega arith))))
        ∙ ap (written w a) (sym ((no_line (take most_kept (unended text)) [] (front_none most_kept (unended text) (unended-none text [] no_end_none))).all rest))

    kept-none : (text : List ℕ) → NoEnd (kept_of text)
    unfolding kept_of
    kept-none text = front_none most_kept (unended text) (unended-none text [] no_end_none)

    -- ---- any pieces
    from-kept : (pieces : List (List ℕ)) (a : A) (kept : List ℕ) → NoEnd kept → in_pieces w a kept pieces ≡ written w a (lines_of (kept ++ joined pieces))
    unfolding in_pieces joined
    from-kept [] a kept e = rw (append-nil kept) (ap (written w a) (sym (last_of kept e)))
    from-kept (piece ∷ pieces) a kept e =
        let text = kept ++ piece in
        ap (λ (x : List ℕ). answers w a (ended_lines text) ++ x) (from-kept pieces (after w a (ended_lines text)) (kept_of text) (kept-none text) ∙ sym (kept_enough text (joined pieces) (after w a (ended_lines text))))
        ∙ sym (written-more (ended_lines text) (lines_from (unended text) (joined pieces)) a)
        ∙ ap (written w a) (sym (lines_split text [] (joined pieces)))
        ∙ ap (λ (x : List ℕ). written w a (lines_of x)) (append_assoc kept piece (joined pieces))

    -- The whole.
    pub in_pieces_lem : (pieces : List (List ℕ)) (a : A) → in_pieces w a [] pieces ≡ written w a (lines_of (joined pieces))
    in_pieces_lem pieces a = from-kept pieces a [] no_end_none
