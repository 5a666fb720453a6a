-- The judging of a correction: "16, 6 for a new figure out of range, 8 for a bound broken with either neighbour". b is the sheet's latitude body, the part that holds its n rows;
-- r is a row, counted from 0, and f the new figures. What it looks at: "the first latitude row's minute, the named row [..] and its neighbours".
use Rattle.std.specs.Prelude.{Bool, true, List, ℕ, ◌+◌, ◌-◌, ℤ}
use Rattle.refusals.specs.Ladder.{need, where_below}
use Rattle.rules.specs.declared.Figures.{Figures}
use Rattle.rules.specs.Latitude.{figures_in_range, within_bounds}
use Rattle.latitude_rows.specs.Rows.{figures_at}
use Rattle.minute_row.specs.MinuteRow.{named_row, has_row}

-- ---- "8 for a bound broken with either neighbour": with the row before, where there is one, and with the row after, where there is one
unfoldable pub bound_before : List ℕ → ℕ → Figures → Bool
bound_before b r f = where_below 0 r (within_bounds (figures_at b (r - 1)) f) true

unfoldable pub bound_after : List ℕ → ℕ → ℕ → Figures → Bool
bound_after b n r f = where_below (r + 1) n (within_bounds f (figures_at b (r + 1))) true

-- "then 16, 6 for a new figure out of range, 8 for a bound broken with either neighbour"
unfoldable pub judged_by : List ℕ → ℕ → ℤ → Figures → ℕ
judged_by b n minute f =
    need (has_row b n minute) 16
    (need (figures_in_range f) 6
    (need (bound_before b (named_row b minute) f) 8
    (need (bound_after b n (named_row b minute) f) 8
    0)))
