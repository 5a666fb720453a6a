-- One line of the points program, asked of an old sheet, s, and of a new one, t, after a correction: "which points do I redo?". l is what the line asks, n its number in the input.
use Rattle.std.specs.Prelude.{Bool, not, cond, ◌&&◌, List, [], ◌++◌, ℕ, eqb, Option}
use Rattle.refusals.specs.Tests.{same_as}
use Rattle.decimal.specs.Writing.{size_text, number_text}
use Rattle.point_line.specs.declared.Line.{Line}
use Rattle.lines.specs.declared.Values.{Values}
use Rattle.lines.specs.Lines.{ended, answer_line, values_of}

-- ---- whether the answer changes
-- w's number and values are v's.
unfoldable pub same_values : Values → Values → Bool
same_values v w = eqb v.number w.number && same_as v.first w.first && same_as v.second w.second

-- The new sheet gives the line another answer: another number, or another value.
unfoldable pub changes : List ℕ → List ℕ → Option Line → Bool
changes s t l = not (same_values (values_of s l) (values_of t l))

-- ---- what is printed
-- A number and two values, with a blank after each.
unfoldable pub values_text : Values → List ℕ
values_text v = ended (size_text v.number) 32 ++ (ended (number_text v.first) 32 ++ ended (number_text v.second) 32)

-- The line's number, what the old sheet answers and what the new one does, "one blank between", and a line feed.
unfoldable pub change_line : ℕ → Values → Values → List ℕ
change_line n v w = ended (size_text n) 32 ++ (values_text v ++ answer_line w.number w.first w.second)

-- Nothing where the answer is the same.
unfoldable pub change_text : Bool → ℕ → Values → Values → List ℕ
change_text changed n v w = cond changed (change_line n v w) []

unfoldable pub compared_text : List ℕ → List ℕ → ℕ → Option Line → List ℕ
compared_text s t n l = change_text (changes s t l) n (values_of s l) (values_of t l)

-- Room for any line that is printed: seven numbers of at most 21 bytes, with a byte after each.
abbrev pub change_room : ℕ
change_room = 154
