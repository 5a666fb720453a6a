-- The answers to the lines of the points program's input. s is the sheet.
use Prim.{Unit, tt}
use Rattle.std.specs.Prelude.{ℕ, List, [], ◌∷◌, ◌++◌}
use Rattle.lines.specs.Lines.{answer_text}
use Rattle.stream.specs.Pieces.{Way}

-- "then one line per line": an answer for each line, in their order.
unfoldable pub answers_of : List ℕ → List (List ℕ) → List ℕ
answers_of s [] = []
answers_of s (line ∷ lines) = answer_text s line ++ answers_of s lines

-- The same as a way to answer lines, each whatever came before it.
abbrev pub answering : List ℕ → Way (Unit {0})
answering s = record { answer = λ a line. answer_text s line; next = λ a line. tt; close = λ a. [] }
