-- What the redo program prints, line by line, for an input in any pieces. Assumes nothing.
use mathlib.Core.Path.{◌≡◌, refl, sym, ap, ◌∙◌}
use mathlib.Core.List.{List, [], ◌∷◌, ◌++◌, append_assoc}
use Prim.Native.Nat.{ℕ}
use lib.ListN.{take}
use Rattle.stream.specs.Stream.{lines_of, most_kept}
use Rattle.stream.specs.Pieces.{answers, after, written, in_pieces, ByFront, joined}
use Rattle.stream.proofs.Joining.{in_pieces_lem}
use Rattle.blocks.specs.Printed.{sheet_named, check_text, where_passes}
use Rattle.blocks.proofs.Printing.{line_front, name_front, passes-more, passes_none}
use Rattle.redone.specs.declared.Tally.{Tally}
use Rattle.redone.specs.Tallied.{no_tally, counts_text}
use Rattle.redone.specs.Redone.{comparing}
use Rattle.redone.specs.Printed.{first_of, rest_of, printed_on, printed_to, printed, Stage, unnamed, one, both, line_answer, line_stage, closing, redo}

-- ---- where both sheets pass
module _ (s t : List ℕ) where
  where_pass : List ℕ → List ℕ
  where_pass text = where_passes s (where_passes t text)

  pass_more : (a b : List ℕ) → where_pass a ++ where_pass b ≡ where_pass (a ++ b)
  unfolding where_pass
  pass_more a b = passes-more s (where_passes t a) (where_passes t b) ∙ ap (where_passes s) (passes-more t a b)

  pass_none : where_pass [] ≡ []
  unfolding where_pass
  pass_none = ap (where_passes s) (passes_none t) ∙ passes_none s

module _ (held : List ℕ → List ℕ) where
  -- ---- a line is asked for no further than 256 bytes
  same_answer : (a : Stage) (line : List ℕ) → line_answer held a (take most_kept line) ≡ line_answer held a line
  unfolding line_answer
  same_answer unnamed name = refl
  same_answer (one s) name = ap (λ (t : List ℕ). check_text s ++ check_text t) (name_front held name)
  same_answer (both s t a) line = rw (line_front line)

  same-stage : (a : Stage) (line : List ℕ) → line_stage held a (take most_kept line) ≡ line_stage held a line
  unfolding line_stage
  same-stage unnamed name = ap one (name_front held name)
  same-stage (one s) name = ap (λ (t : List ℕ). both s t no_tally) (name_front held name)
  same-stage (both s t a) line = rw (line_front line)

  front : ByFront (redo held)
  front = record { answered = same_answer; state = same-stage }

  -- ---- the lines after the names
  module _ (s t : List ℕ) where
    both-answers : (lines : List (List ℕ)) (a : Tally) → answers (redo held) (both s t a) lines ≡ where_pass s t (answers (comparing s t) a lines)
    unfolding answers line_answer line_stage where_pass
    both-answers [] a = sym (pass_none s t)
    both-answers (line ∷ lines) a = ap (λ (x : List ℕ). where_pass s t ((comparing s t).answer a line) ++ x) (both-answers lines ((comparing s t).next a line)) ∙ pass_more s t ((comparing s t).answer a line) (answers (comparing s t) ((comparing s t).next a line) lines)

    both-after : (lines : List (List ℕ)) (a : Tally) → after (redo held) (both s t a) lines ≡ both s t (after (comparing s t) a lines)
    unfolding after line_stage
    both-after [] a = refl
    both-after (line ∷ lines) a = both-after lines ((comparing s t).next a line)

    both-written : (lines : List (List ℕ)) (a : Tally) → written (redo held) (both s t a) lines ≡ where_pass s t (written (comparing s t) a lines)
    unfolding written closing where_pass
    both-written lines a = rw (both-after lines a, both-answers lines a) (pass_more s t (answers (comparing s t) a lines) (counts_text (after (comparing s t) a lines)))

  line_by_line : (lines : List (List ℕ)) → written (redo held) unnamed lines ≡ printed_to held lines
  unfolding written answers after line_answer line_stage closing printed_to printed_on first_of rest_of where_pass
  line_by_line [] = refl
  line_by_line (old ∷ []) = refl
  line_by_line (old ∷ new ∷ lines) = after_names (sheet_named held old) (sheet_named held new)
    where
      after_names : (s t : List ℕ) → ((check_text s ++ check_text t) ++ answers (redo held) (both s t no_tally) lines) ++ closing held (after (redo held) (both s t no_tally) lines) ≡ check_text s ++ (check_text t ++ where_pass s t (written (comparing s t) no_tally lines))
      after_names s t =
          append_assoc (check_text s ++ check_text t) (answers (redo held) (both s t no_tally) lines) (closing held (after (redo held) (both s t no_tally) lines))
          ∙ ap (λ (x : List ℕ). (check_text s ++ check_text t) ++ x) (both-written s t lines no_tally)
          ∙ append_assoc (check_text s) (check_text t) (where_pass s t (written (comparing s t) no_tally lines))

  -- ---- the whole: whatever the pieces, what is written is what is said of the joined input
  pub printed_in_pieces : (pieces : List (List ℕ)) → in_pieces (redo held) unnamed [] pieces ≡ printed held (joined pieces)
  printed_in_pieces pieces = in_pieces_lem (redo held) front pieces unnamed ∙ line_by_line (lines_of (joined pieces))
