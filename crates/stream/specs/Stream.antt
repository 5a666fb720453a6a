-- "Lines end in a line feed; bytes after the last one are a line too": the lines of a text. A line stands without its line feed, which is 10.
use Rattle.std.specs.Prelude.{ℕ, zero, suc, ◌+◌, Bool, true, cond, not, ◌&&◌, List, [], ◌∷◌, ◌++◌, eqb, take, get_or}

-- What stands behind the last line feed is a line, where there is any.
unfoldable pub last_line : List ℕ → List (List ℕ)
last_line [] = []
last_line (b ∷ line) = (b ∷ line) ∷ []

-- `line` is what the first line has before the text.
unfoldable pub lines_from : List ℕ → List ℕ → List (List ℕ)
lines_from line [] = last_line line
lines_from line (b ∷ text) = cond (eqb b 10) (line ∷ lines_from [] text) (lines_from (line ++ b ∷ []) text)

-- The lines of a whole input, in their order.
abbrev pub lines_of : List ℕ → List (List ℕ)
lines_of text = lines_from [] text

-- ---- an input of which more may come
-- The lines that have ended.
unfoldable pub ended_from : List ℕ → List ℕ → List (List ℕ)
ended_from line [] = []
ended_from line (b ∷ text) = cond (eqb b 10) (line ∷ ended_from [] text) (ended_from (line ++ b ∷ []) text)

abbrev pub ended_lines : List ℕ → List (List ℕ)
ended_lines text = ended_from [] text

-- The line that has not.
unfoldable pub unended_from : List ℕ → List ℕ → List ℕ
unended_from line [] = line
unended_from line (b ∷ text) = cond (eqb b 10) (unended_from [] text) (unended_from (line ++ b ∷ []) text)

abbrev pub unended : List ℕ → List ℕ
unended text = unended_from [] text

-- ---- where a line ends
-- Byte i is no line feed; and none of the n bytes from i on is one.
unfoldable pub goes_on : List ℕ → ℕ → Bool
goes_on text i = not (eqb (get_or text i 0) 10)

unfoldable pub all_go_on : List ℕ → ℕ → ℕ → Bool
all_go_on text i zero = true
all_go_on text i (suc n) = all_go_on text i n && goes_on text (i + n)

-- ---- what is kept of a line that has not ended
-- The most bytes that are kept of it: one more than the longest name, 255, and more than the longest line of a known form, 25.
abbrev pub most_kept : ℕ
most_kept = 256

unfoldable pub kept_of : List ℕ → List ℕ
kept_of text = take most_kept (unended text)
