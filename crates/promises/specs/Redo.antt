-- Of the redo program, which compares one line after another on the old sheet and on the corrected one: "Which of my four thousand points do I redo?".
use Rattle.std.specs.Prelude.{◌≡◌, true, List, ℕ, ℤ, Option}
use Rattle.rules.specs.declared.Figures.{Figures}
use Rattle.correct.specs.Correction.{correction_of, corrected_of}
use Rattle.point_line.specs.declared.Line.{Line}
use Rattle.differing.specs.Differing.{differing_rows}
use Rattle.reached.specs.Reached.{reaches}
use Rattle.compared.specs.Compared.{changes}
use Rattle.promises.specs.Corrections.{Passes}

-- After a correction that was accepted, on a sheet that passes, every line whose answer changes counts among those that are reached, by the rows in which the sheets differ. To redo the reached ones is to miss none.
-- A line's answer is a number and two values, so that a mark alone is no change.
abbrev pub NoneMissed : Type 0
NoneMissed =
    (s : List ℕ) → Passes s → (minute : ℤ) (f : Figures) → correction_of s minute f ≡ 0
    → (l : Option Line) → changes s (corrected_of s minute f) l ≡ true → reaches s (corrected_of s minute f) l (differing_rows s (corrected_of s minute f)) ≡ true
