-- The answers to the lines of the redo program's input. s is the old sheet, t the new one, a the tally before a line.
use Rattle.std.specs.Prelude.{ℕ, List}
use Rattle.point_line.specs.PointLine.{line_of}
use Rattle.stream.specs.Pieces.{Way}
use Rattle.compared.specs.Compared.{compared_text}
use Rattle.redone.specs.declared.Tally.{Tally}
use Rattle.redone.specs.Tallied.{up, tallied, counts_text}

-- A line is answered where its answer changes, with its number and both answers; behind the last come the counts.
abbrev pub comparing : List ℕ → List ℕ → Way Tally
comparing s t = record { answer = λ a line. compared_text s t (up a.lines) (line_of line); next = λ a line. tallied s t a (line_of line); close = counts_text }
