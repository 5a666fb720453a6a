-- The fault of a latitude row. b is the body: the part of the sheet that holds its n rows; i is the row, counted from 0. A fault is a number, 0 for none.
-- "in each row 6, 7, 8, 9, where 7 to 9 look at the next row": 6 "a figure outside its range"; 7 "next minute not one more"; 8 "a row difference outside its
-- bounds"; 9 "Δy, ΔH or ΔV not as stated". The figures stand in the order of the table of kinds, with its units and ranges.
-- "No word may be missing": 5 sees to it that the body holds every word of its rows; "zero is a figure like any other": a 0 is judged by
-- its range alone.
use Rattle.std.specs.Prelude.{Bool, ◌&&◌, List, ℕ, ◌+◌, ◌*◌, pos}
use Rattle.words.specs.Words.{word_at}
use Rattle.refusals.specs.Ladder.{need, where_below}
use Rattle.entries.specs.Layout.{latitude, width_of}
use Rattle.rules.specs.declared.Figures.{Figures}
use Rattle.rules.specs.declared.Differences.{Differences}
use Rattle.latitude_rows.specs.declared.Row.{Row}
use Rattle.refusals.specs.Tests.{in_range}
use Rattle.rules.specs.Limits.{rises}
use Rattle.rules.specs.Latitude.{figures_in_range, within_bounds, differences_of, no_differences, same_differences}

-- "2 latitude": "minute; y0 (0.01 ft); Δy (0.00001); H (0.000001); ΔH (10⁻⁸); V (0.000001); ΔV (10⁻⁸); a (0.001)".
-- The four figures, the three differences, and the row of both with its minute.
unfoldable pub figures_at : List ℕ → ℕ → Figures
figures_at b i = record { y0 = word_at b (width_of latitude * i + 1); h = word_at b (width_of latitude * i + 3); v = word_at b (width_of latitude * i + 5); a = word_at b (width_of latitude * i + 7) }

unfoldable pub differences_at : List ℕ → ℕ → Differences
differences_at b i = record { y = word_at b (width_of latitude * i + 2); h = word_at b (width_of latitude * i + 4); v = word_at b (width_of latitude * i + 6) }

abbrev pub row_at : List ℕ → ℕ → Row
row_at b i = record { minute = word_at b (width_of latitude * i); figures = figures_at b i; differences = differences_at b i }

-- "minute 0 to 5,400" and the four figures. Δy, ΔH and ΔV have no range: 9 fixes them.
unfoldable pub row_in_range : Row → Bool
row_in_range row = in_range (pos 0) row.minute (pos 5_400) && figures_in_range row.figures

-- A row that another follows.
unfoldable pub pair_fault : Row → Row → ℕ
pair_fault row next =
    need (row_in_range row) 6
    (need (rises row.minute next.minute (pos 1) (pos 1)) 7
    (need (within_bounds row.figures next.figures) 8
    (need (same_differences row.differences (differences_of row.figures next.figures)) 9
    0)))

-- The last row has no next: 6, and 9 since "In the last row all three are 0."
unfoldable pub last_fault : Row → ℕ
last_fault row =
    need (row_in_range row) 6
    (need (same_differences row.differences no_differences) 9
    0)

-- Row i of n has a next where i + 1 is below n.
unfoldable pub latitude_fault : List ℕ → ℕ → ℕ → ℕ
latitude_fault b n i = where_below (i + 1) n (pair_fault (row_at b i) (row_at b (i + 1))) (last_fault (row_at b i))
