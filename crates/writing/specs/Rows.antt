-- A latitude row written: b is the latitude body, the part that holds its rows, and i a row, counted from 0. "2 latitude [..] minute; y0 (0.01 ft); Δy (0.00001); H (0.000001);
-- ΔH (10⁻⁸); V (0.000001); ΔV (10⁻⁸); a (0.001)": words 0 to 7 of the row. The minute is not written here, since a row keeps its own.
use Rattle.std.specs.Prelude.{List, ℕ, ◌+◌, ◌*◌}
use Rattle.words.specs.Words.{put_word}
use Rattle.entries.specs.Layout.{latitude, width_of}
use Rattle.rules.specs.declared.Figures.{Figures}
use Rattle.rules.specs.declared.Differences.{Differences}

-- "it writes the four figures"
unfoldable pub put_figures : List ℕ → ℕ → Figures → List ℕ
put_figures b i f = put_word (put_word (put_word (put_word b (width_of latitude * i + 1) f.y0) (width_of latitude * i + 3) f.h) (width_of latitude * i + 5) f.v) (width_of latitude * i + 7) f.a

-- "and the reworked differences"
unfoldable pub put_differences : List ℕ → ℕ → Differences → List ℕ
put_differences b i d = put_word (put_word (put_word b (width_of latitude * i + 2) d.y) (width_of latitude * i + 4) d.h) (width_of latitude * i + 6) d.v

-- Both: all of row i but its minute.
abbrev pub put_row : List ℕ → ℕ → Figures → Differences → List ℕ
put_row b i f d = put_differences (put_figures b i f) i d
