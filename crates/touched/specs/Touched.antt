-- Which points to redo after a correction of one latitude row. Of a geographic point: whether an accepted correction of the minute's row may change what geographic to plane answers.
-- Of a plane point: the same for plane to geographic. Convergence and scale it never changes. s is the sheet, r the row of the minute, counted from 0. North and west are a latitude and
-- a west longitude in 0.001″; x and y are in 0.01 ft.
use Rattle.std.specs.Prelude.{Bool, false, ◌&&◌, List, ℕ, ◌+◌, ◌-◌, ltb, ℤ, pos, nat_abs, ◌+ℤ◌, ◌-ℤ◌, ◌*ℤ◌, Result, Ok, Err}
use Rattle.std.specs.Int.Signed.{le_z, lt_z}
use Rattle.refusals.specs.declared.Refusal.{Refusal}
use Rattle.refusals.specs.Numbers.{number_of}
use Rattle.refusals.specs.Ladder.{need, where_below}
use Rattle.rules.specs.Latitude.{most_rise}
use Rattle.entries.specs.Layout.{latitude, one_minute}
use Rattle.entries.specs.Entries.{rows_of, body_of}
use Rattle.tables.specs.Figures.{y0_of}
use Rattle.extent.specs.Extent.{latitude_known, longitude_known, x_prime, easting_known, northing_known}
use Rattle.inverse.specs.Inverse.{reduced_northing}
use Rattle.convert.specs.Conversions.{after_check}
use Rattle.minute_row.specs.MinuteRow.{named_row, has_row}

-- The answer, as it is told: a number, and whether the point's answer may change. Where the number is not 0 the question is refused: then `touched` is false, and says nothing of the point.
pub record TouchTold : Type 0 where
  pub number : ℕ
  pub touched : Bool

abbrev pub touch : ℕ → Bool → TouchTold
touch number touched = record { number = number; touched = touched }

abbrev pub no_touch : ℕ → TouchTold
no_touch number = touch number false

-- What code answers, as it is told.
abbrev pub touch_told : Result Bool Refusal → TouchTold
touch_told (Ok t) = touch 0 t
touch_told (Err r) = no_touch (number_of r)

-- Whether the sheet has a latitude row with the minute, and that row's number, both as a correction finds them.
abbrev pub has_minute : List ℕ → ℤ → Bool
has_minute s minute = has_row (body_of s latitude) (rows_of s latitude) minute

abbrev pub row_named : List ℕ → ℤ → ℕ
row_named s minute = named_row (body_of s latitude) minute

-- ---- a geographic point
-- The latitude lies less than a minute from the row's: on the row, or between it and a row next to it, but not on that next row.
unfoldable pub near_row : ℤ → ℤ → Bool
near_row minute north = ltb (nat_abs (north -ℤ minute *ℤ pos one_minute)) one_minute

-- What 10 or 11 refuses stays refused.
unfoldable pub forward_touched : List ℕ → ℤ → ℤ → ℤ → Bool
forward_touched s minute north west =
    need (latitude_known s north) false
    (need (longitude_known s west) false
    (near_row minute north))

-- ---- a plane point, judged by its reduced northing
-- The reduced northing lies above y0 of the row before. The first row has none: there it is not below the least y0 that the bound with the next row allows, "y0 rises by 600,000 to 615,000".
unfoldable pub above_prior : List ℕ → ℕ → ℤ → Bool
above_prior s r reduced = where_below 0 r (lt_z (y0_of s (r - 1)) reduced) (le_z (y0_of s (r + 1) -ℤ pos most_rise) reduced)

-- The reduced northing lies below y0 of the next row. The last row has none: there it is not above the greatest y0 that the bound with the row before allows.
unfoldable pub below_next : List ℕ → ℕ → ℤ → Bool
below_next s r reduced = where_below (r + 1) (rows_of s latitude) (lt_z reduced (y0_of s (r + 1))) (le_z reduced (y0_of s (r - 1) +ℤ pos most_rise))

-- What 12 or 13 refuses stays refused. What 14 refuses may come to be answered, since a correction of the first or the last row moves the first or the last y0; so may
-- what 11 refuses, since L is worked from H and a.
unfoldable pub inverse_touched : List ℕ → ℕ → ℤ → ℤ → Bool
inverse_touched s r x y =
    need (easting_known s (x_prime s x)) false
    (need (northing_known s y) false
    (above_prior s r (reduced_northing s (nat_abs (x_prime s x)) y) && below_next s r (reduced_northing s (nat_abs (x_prime s x)) y)))

-- ---- "Each conversion gives the check's number first, then its own": so here, then 16, "no row with the correction's minute"
unfoldable pub geographic_touched : List ℕ → ℤ → ℤ → ℤ → TouchTold
geographic_touched s minute north west =
    after_check (λ t. t.number) no_touch s
    (need (has_minute s minute) (no_touch 16)
    (touch 0 (forward_touched s minute north west)))

unfoldable pub plane_touched : List ℕ → ℤ → ℤ → ℤ → TouchTold
plane_touched s minute x y =
    after_check (λ t. t.number) no_touch s
    (need (has_minute s minute) (no_touch 16)
    (touch 0 (inverse_touched s (row_named s minute) x y)))
