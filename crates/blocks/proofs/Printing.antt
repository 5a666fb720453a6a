-- What the points program prints, line by line, for an input in any pieces. Assumes nothing.
use mathlib.Core.Path.{◌≡◌, refl, sym, ap, ◌∙◌}
use mathlib.Core.Bool.{Bool, true, false, cond}
use mathlib.Core.List.{List, [], ◌∷◌, ◌++◌, append-nil, append_assoc}
use mathlib.Core.Logic.{◌⊎◌, inl, inr, ⊎_elim}
use Prim.Native.Nat.{ℕ, ◌≤◌, ◌<◌}
use native.Mathlib.Omega.{arith}
use borrow.Author.Tests.{lt-leb}
use lib.Dec.{eqb}
use lib.ListN.{length, take}
use lib.Seq.{take_all, length-take-le}
use Rattle.refusals.specs.Ladder.{where_is}
use Rattle.sheet_check.specs.Check.{check_of}
use Rattle.point_line.specs.PointLine.{line_of}
use Rattle.point_line.proofs.Forms.{too_long}
use Rattle.lines.specs.Lines.{answer_text}
use Rattle.stream.specs.Stream.{lines_of, most_kept}
use Rattle.stream.specs.Pieces.{answers, after, written, in_pieces, ByFront, joined}
use Rattle.stream.proofs.Cases.{split}
use Rattle.stream.proofs.Joining.{in_pieces_lem}
use Rattle.blocks.specs.Blocks.{answers_of}
use Rattle.blocks.specs.Printed.{is_name, sheet_named, check_text, where_passes, printed_to, printed, Stage, unnamed, given, line_answer, line_stage, closing, points}

-- ---- a line is asked for no further than 256 bytes
short_or_long : (line : List ℕ) → (take most_kept line ≡ line) ⊎ ((most_kept ≤ length line) × (length (take most_kept line) ≡ most_kept))
short_or_long line = go (split most_kept (length line))
  where
    go : (most_kept ≤ length line) ⊎ (length line ≤ most_kept) → (take most_kept line ≡ line) ⊎ ((most_kept ≤ length line) × (length (take most_kept line) ≡ most_kept))
    go (inl h) = inr (h, length-take-le most_kept line h)
    go (inr h) = inl (take_all most_kept line h)

pub line_front : (line : List ℕ) → line_of (take most_kept line) ≡ line_of line
line_front line = ⊎_elim (λ e. ap line_of e) (λ h. too_long (take most_kept line) (omega (arith, h)) ∙ sym (too_long line (omega (arith, h)))) (short_or_long line)

long-name : (name : List ℕ) → 255 < length name → is_name name ≡ false
unfolding is_name
long-name name h = rw (lt-leb (length name) 255 h)

-- ---- nothing but the check's answer where the sheet does not pass
pub passes-more : (s a b : List ℕ) → where_passes s a ++ where_passes s b ≡ where_passes s (a ++ b)
unfolding where_passes where_is
passes-more s a b = go (eqb (check_of s).number 0)
  where
    go : (t : Bool) → cond t a [] ++ cond t b [] ≡ cond t (a ++ b) []
    go true = refl
    go false = refl

pub passes_none : (s : List ℕ) → where_passes s [] ≡ []
unfolding where_passes where_is
passes_none s = go (eqb (check_of s).number 0)
  where
    go : (t : Bool) → cond {A = List ℕ} t [] [] ≡ []
    go true = refl
    go false = refl

module _ (held : List ℕ → List ℕ) where
  pub name_front : (name : List ℕ) → sheet_named held (take most_kept name) ≡ sheet_named held name
  unfolding sheet_named
  name_front name = ⊎_elim (λ e. ap (λ (n : List ℕ). cond (is_name n) (held n) []) e) (λ h. rw (long-name (take most_kept name) (omega (arith, h)), long-name name (omega (arith, h)))) (short_or_long name)

  same_answer : (a : Stage) (line : List ℕ) → line_answer held a (take most_kept line) ≡ line_answer held a line
  unfolding line_answer answer_text
  same_answer unnamed name = ap check_text (name_front name)
  same_answer (given s) line = rw (line_front line)

  same-stage : (a : Stage) (line : List ℕ) → line_stage held a (take most_kept line) ≡ line_stage held a line
  unfolding line_stage
  same-stage unnamed name = ap given (name_front name)
  same-stage (given s) line = refl

  front : ByFront (points held)
  front = record { answered = same_answer; state = same-stage }

  -- ---- the lines after the name
  given-answers : (s : List ℕ) (lines : List (List ℕ)) → answers (points held) (given s) lines ≡ where_passes s (answers_of s lines)
  unfolding answers answers_of line_answer line_stage
  given-answers s [] = sym (passes_none s)
  given-answers s (line ∷ lines) = ap (λ (x : List ℕ). where_passes s (answer_text s line) ++ x) (given-answers s lines) ∙ passes-more s (answer_text s line) (answers_of s lines)

  given-after : (s : List ℕ) (lines : List (List ℕ)) → after (points held) (given s) lines ≡ given s
  unfolding after line_stage
  given-after s [] = refl
  given-after s (line ∷ lines) = given-after s lines

  given-written : (s : List ℕ) (lines : List (List ℕ)) → written (points held) (given s) lines ≡ where_passes s (answers_of s lines)
  unfolding written closing
  given-written s lines = rw (given-after s lines, given-answers s lines) (append-nil (where_passes s (answers_of s lines)))

  line_by_line : (lines : List (List ℕ)) → written (points held) unnamed lines ≡ printed_to held lines
  unfolding written answers after line_answer line_stage closing printed_to
  line_by_line [] = refl
  line_by_line (name ∷ lines) = after-name (sheet_named held name)
    where
      after-name : (s : List ℕ) → (check_text s ++ answers (points held) (given s) lines) ++ closing held (after (points held) (given s) lines) ≡ check_text s ++ where_passes s (answers_of s lines)
      after-name s = append_assoc (check_text s) (answers (points held) (given s) lines) (closing held (after (points held) (given s) lines)) ∙ ap (λ (x : List ℕ). check_text s ++ x) (given-written s lines)

  -- ---- the whole: whatever the pieces, what is written is what 01 says of the joined input
  pub printed_in_pieces : (pieces : List (List ℕ)) → in_pieces (points held) unnamed [] pieces ≡ printed held (joined pieces)
  printed_in_pieces pieces = in_pieces_lem (points held) front pieces unnamed ∙ line_by_line (lines_of (joined pieces))
