-- The latitude row that a minute names. b is the sheet's latitude body, the part that holds its n rows.
use Rattle.std.specs.Prelude.{Bool, ◌&&◌, List, ℕ, ◌-◌, ℤ, pos, nat_abs, ◌-ℤ◌}
use Rattle.refusals.specs.Tests.{in_range, same_as}
use Rattle.latitude_rows.specs.Rows.{row_at}

-- "the first row's minute fixes its place"
unfoldable pub from_first_minute : List ℕ → ℤ → ℤ
from_first_minute b minute = minute -ℤ (row_at b 0).minute

abbrev pub named_row : List ℕ → ℤ → ℕ
named_row b minute = nat_abs (from_first_minute b minute)

-- "and its own minute must agree". Whether the place that the first row's minute gives is one of the body's, and its row has the minute: false exactly where 16 is due, "no row with the correction's minute".
-- On a sheet not checked before, a row in another place that has the minute does not count. The minute has no range of its own.
unfoldable pub has_row : List ℕ → ℕ → ℤ → Bool
has_row b n minute = in_range (pos 0) (from_first_minute b minute) (pos (n - 1)) && same_as (row_at b (named_row b minute)).minute minute
