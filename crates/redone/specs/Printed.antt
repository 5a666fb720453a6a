-- What the redo program prints for a whole input. `held` gives the bytes that the system holds under a file's name, none where it cannot be read.
use Rattle.std.specs.Prelude.{ℕ, List, [], ◌∷◌, ◌++◌}
use Rattle.stream.specs.Stream.{lines_of}
use Rattle.stream.specs.Pieces.{Way, written}
use Rattle.blocks.specs.Printed.{sheet_named, check_text, where_passes}
use Rattle.redone.specs.declared.Tally.{Tally}
use Rattle.redone.specs.Tallied.{no_tally}
use Rattle.redone.specs.Redone.{comparing}

-- The first of some lines, an empty one where there is none, and those behind it.
unfoldable pub first_of : List (List ℕ) → List ℕ
first_of [] = []
first_of (line ∷ lines) = line

unfoldable pub rest_of : List (List ℕ) → List (List ℕ)
rest_of [] = []
rest_of (line ∷ lines) = lines

-- The check's answer for the old sheet and for the new one; where both are 0, the lines whose answer changes, and the counts.
unfoldable pub printed_on : List ℕ → List ℕ → List (List ℕ) → List ℕ
printed_on s t lines = check_text s ++ (check_text t ++ where_passes s (where_passes t (written (comparing s t) no_tally lines)))

-- The first line names the old sheet, the second the new one.
unfoldable pub printed_to : (List ℕ → List ℕ) → List (List ℕ) → List ℕ
printed_to held lines = printed_on (sheet_named held (first_of lines)) (sheet_named held (first_of (rest_of lines))) (rest_of (rest_of lines))

abbrev pub printed : (List ℕ → List ℕ) → List ℕ → List ℕ
printed held input = printed_to held (lines_of input)

-- ---- the same, a line at a time
-- Both names are still to come, or the new one's, or the sheets that they name are given.
pub data Stage : Type 0 where
  unnamed : Stage
  one : List ℕ → Stage
  both : List ℕ → List ℕ → Tally → Stage

module _ (held : List ℕ → List ℕ) where
  unfoldable pub line_answer : Stage → List ℕ → List ℕ
  line_answer unnamed name = []
  line_answer (one s) name = check_text s ++ check_text (sheet_named held name)
  line_answer (both s t a) line = where_passes s (where_passes t ((comparing s t).answer a line))

  unfoldable pub line_stage : Stage → List ℕ → Stage
  line_stage unnamed name = one (sheet_named held name)
  line_stage (one s) name = both s (sheet_named held name) no_tally
  line_stage (both s t a) line = both s t ((comparing s t).next a line)

  unfoldable pub closing : Stage → List ℕ
  closing unnamed = printed_on (sheet_named held []) (sheet_named held []) []
  closing (one s) = printed_on s (sheet_named held []) []
  closing (both s t a) = where_passes s (where_passes t ((comparing s t).close a))

  abbrev pub redo : Way Stage
  redo = record { answer = line_answer; next = line_stage; close = closing }
