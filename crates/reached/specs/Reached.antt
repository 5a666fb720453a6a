-- Whether some of the rows in which an old sheet, s, and a new one, t, differ may touch a line of the points program. l is what the line asks.
use Rattle.std.specs.Prelude.{Bool, false, ◌||◌, List, ℕ, ◌+◌, ◌/◌, ℤ, nat_abs, Option, Some, None}
use Rattle.refusals.specs.Ladder.{need}
use Rattle.entries.specs.Layout.{one_minute}
use Rattle.tables.specs.Figures.{first_latitude_of}
use Rattle.extent.specs.Extent.{x_prime, easting_known, northing_known}
use Rattle.inverse.specs.Inverse.{reduced_northing, row_of}
use Rattle.touched.specs.Touched.{geographic_touched, plane_touched}
use Rattle.point_line.specs.declared.Line.{Line}
use Rattle.point_line.specs.PointLine.{by_form}
use Rattle.differing.specs.Differing.{any_of}

-- A correction of the minute's row may change what the sheet answers: G by its latitude, P by its reduced northing. No latitude row moves convergence and scale, nor 18.
unfoldable pub touches : List ℕ → Option Line → ℤ → Bool
touches s None minute = false
touches s (Some l) minute =
    by_form l.form
    (geographic_touched s minute l.first l.second).touched
    (plane_touched s minute l.first l.second).touched
    false

-- The same, asked of both sheets. Of one corrected row both say the same; where more rows differ one sheet may say yes and the other no.
abbrev pub either_touches : List ℕ → List ℕ → Option Line → ℤ → Bool
either_touches s t l minute = touches s l minute || touches t l minute

-- Some of the minutes may touch it.
unfoldable pub reaches : List ℕ → List ℕ → Option Line → List ℤ → Bool
reaches s t l minutes = any_of (either_touches s t l) minutes

-- ---- the two minutes that are asked: none touches the line but `lower_minute` and the one after it (`proofs/TwoMinutes.antt`)
abbrev pub first_minute : List ℕ → ℕ
first_minute s = nat_abs (first_latitude_of s) / one_minute

-- Of a plane point: the minute of the last row with y0 not above its reduced northing, the first row's where there is none. What 12 or 13 refuses no row touches.
unfoldable pub plane_minute : List ℕ → ℤ → ℤ → ℕ
plane_minute s x y =
    need (easting_known s (x_prime s x)) 0
    (need (northing_known s y) 0
    (first_minute s + row_of s (reduced_northing s (nat_abs (x_prime s x)) y)))

-- Of a geographic point: the whole minutes of its latitude, which is not negative where 10 does not refuse it.
unfoldable pub lower_minute : List ℕ → Option Line → ℕ
lower_minute s None = 0
lower_minute s (Some l) =
    by_form l.form
    (nat_abs l.first / one_minute)
    (plane_minute s l.first l.second)
    0
