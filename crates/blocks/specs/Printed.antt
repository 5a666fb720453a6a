-- "Points program": what it prints for a whole input. `held` gives the bytes that the system holds under a file's name, none where it cannot be read. (The program reads no more than 65,536 of them:
-- from 65,533 on the check's answer is 1 0 0.)
use Rattle.std.specs.Prelude.{ℕ, Bool, cond, ◌&&◌, List, [], ◌∷◌, ◌++◌, leb, eqb, length}
use Rattle.stream.specs.Search.{index_of}
use Rattle.refusals.specs.Ladder.{where_is}
use Rattle.sheet_check.specs.Check.{check_of}
use Rattle.lines.specs.Lines.{verdict_line, answer_text}
use Rattle.stream.specs.Stream.{lines_of}
use Rattle.stream.specs.Pieces.{Way}
use Rattle.blocks.specs.Blocks.{answers_of}

-- "a name over 255 bytes or with a zero byte, counts as empty": no sheet then.
unfoldable pub is_name : List ℕ → Bool
is_name name = leb (length name) 255 && eqb (index_of 0 name) (length name)

unfoldable pub sheet_named : (List ℕ → List ℕ) → List ℕ → List ℕ
sheet_named held name = cond (is_name name) (held name) []

-- "It prints the check's answer".
unfoldable pub check_text : List ℕ → List ℕ
check_text s = verdict_line (check_of s).number (check_of s).kind (check_of s).row

-- "and stops if that is not 0; then one line per line".
unfoldable pub where_passes : List ℕ → List ℕ → List ℕ
where_passes s text = where_is (check_of s).number 0 text []

-- "Standard input: the sheet's file name, then lines": the first line is the name; an input of no lines has an empty one.
unfoldable pub printed_to : (List ℕ → List ℕ) → List (List ℕ) → List ℕ
printed_to held [] = check_text (sheet_named held [])
printed_to held (name ∷ lines) = check_text (sheet_named held name) ++ where_passes (sheet_named held name) (answers_of (sheet_named held name) lines)

abbrev pub printed : (List ℕ → List ℕ) → List ℕ → List ℕ
printed held input = printed_to held (lines_of input)

-- ---- the same, a line at a time
-- The name is still to come, or the sheet that it names is given.
pub data Stage : Type 0 where
  unnamed : Stage
  given : List ℕ → Stage

module _ (held : List ℕ → List ℕ) where
  unfoldable pub line_answer : Stage → List ℕ → List ℕ
  line_answer unnamed name = check_text (sheet_named held name)
  line_answer (given s) line = where_passes s (answer_text s line)

  unfoldable pub line_stage : Stage → List ℕ → Stage
  line_stage unnamed name = given (sheet_named held name)
  line_stage (given s) line = given s

  unfoldable pub closing : Stage → List ℕ
  closing unnamed = check_text (sheet_named held [])
  closing (given s) = []

  abbrev pub points : Way Stage
  points = record { answer = line_answer; next = line_stage; close = closing }
