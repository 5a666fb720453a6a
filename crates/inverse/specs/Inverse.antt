-- "Plane to geographic." x and y in 0.01 ft, latitude and longitude in 0.001″. s is the sheet and xp is x'. The name x is the point's x in `inverse_of`, and the size of x' everywhere else.
use Rattle.std.specs.Prelude.{Bool, false, ◌||◌, List, ℕ, ◌+◌, ◌*◌, ℤ, pos, nat_abs, ◌+ℤ◌, ◌-ℤ◌, Result, Ok, Err}
use Rattle.refusals.specs.declared.Refusal.{Refusal}
use Rattle.refusals.specs.Numbers.{number_of}
use Rattle.rounding.specs.Nearest.{with_sign}
use Rattle.steps.specs.Steps.{reduction, reduction_half, seconds, seconds_half, approximate_l, approximate_l_half, size_of_l, size_of_l_half}
use Rattle.refusals.specs.Ladder.{need, where_below}
use Rattle.entries.specs.Layout.{latitude, one_minute}
use Rattle.entries.specs.Entries.{rows_of}
use Rattle.row_search.specs.Rows.{last_not_above}
use Rattle.tables.specs.Figures.{central_meridian_of, first_latitude_of, y0_of, h_at, h_half, a_at, a_half, b_at, b_half, p_at, p_half, d_at, d_half}
use Rattle.extent.specs.Extent.{size_known, x_prime, easting_known, northing_known, reduced_known}
use Rattle.rounding.specs.declared.Rounded.{Rounded}
use Rattle.inverse.specs.declared.Geographic.{Geographic}
use Rattle.inverse.specs.declared.ForReduction.{ForReduction}
use Rattle.inverse.specs.declared.Taken.{Taken}

-- The answer, as it is told: number, latitude and west longitude in 0.001″, and whether "some rounding in it met a half (no in a refusal)". "A refused conversion carries zeros."
pub record GeographicTold : Type 0 where
  pub number : ℕ
  pub latitude : ℤ
  pub longitude : ℤ
  pub half : Bool

abbrev pub geographic : ℕ → ℤ → ℤ → Bool → GeographicTold
geographic number latitude longitude half = record { number = number; latitude = latitude; longitude = longitude; half = half }

abbrev pub no_geographic : ℕ → GeographicTold
no_geographic number = geographic number (pos 0) (pos 0) false

-- What code answers, as it is told.
abbrev pub geographic_told : Result Geographic Refusal → GeographicTold
geographic_told (Ok g) = geographic 0 g.latitude g.longitude g.half
geographic_told (Err r) = no_geographic (number_of r)

-- "P is read at y, d at |x'|. Reduced northing = y − nearest hundredth of (P(x'/10,000)² + d)"
unfoldable pub reduced_northing : List ℕ → ℕ → ℤ → ℤ
reduced_northing s x y = y -ℤ reduction (p_at s (nat_abs y)) x (d_at s x)

-- Some rounding up to it met a half.
unfoldable pub reduced_half : List ℕ → ℕ → ℤ → Bool
reduced_half s x y = p_half s (nat_abs y) || d_half s x || reduction_half (p_at s (nat_abs y)) x (d_at s x)

-- "The row is the last with y0 not above it"
unfoldable pub row_of : List ℕ → ℤ → ℕ
row_of s reduced = last_not_above (y0_of s) (rows_of s latitude) reduced

-- "reduced − y0" and "y0 next − y0", of a row.
abbrev pub past_of : List ℕ → ℤ → ℕ → ℕ
past_of s reduced row = nat_abs (reduced -ℤ y0_of s row)

abbrev pub gap_of : List ℕ → ℕ → ℕ
gap_of s row = nat_abs (y0_of s (row + 1) -ℤ y0_of s row)

-- "seconds = 60(reduced − y0)/(y0 next − y0), to 0.001, and 0 at the last row."
unfoldable pub seconds_past : List ℕ → ℤ → ℕ → ℕ
seconds_past s reduced row = where_below (row + 1) (rows_of s latitude) (seconds one_minute (past_of s reduced row) (gap_of s row)) 0

-- Whether they met a half: no at the last row.
unfoldable pub seconds_past_half : List ℕ → ℤ → ℕ → Bool
seconds_past_half s reduced row = where_below (row + 1) (rows_of s latitude) (seconds_half one_minute (past_of s reduced row) (gap_of s row)) false

-- The latitude's distance from row 0: the row's, and the seconds. "If that comes to 60.000 the latitude is the next minute": 60.000 past a row is the next row
-- itself, at which nothing is left to read between rows.
unfoldable pub distance_of : List ℕ → ℤ → ℕ
distance_of s reduced = row_of s reduced * one_minute + seconds_past s reduced (row_of s reduced)

-- Whether it met a half: of the two, the seconds alone are rounded.
unfoldable pub distance_half : List ℕ → ℤ → Bool
distance_half s reduced = seconds_past_half s reduced (row_of s reduced)

-- "Read H and a there. Approximate L = |x'|/H to a whole second", here in 0.001″. t is the latitude's distance from row 0.
unfoldable pub approximate_of : List ℕ → ℕ → ℕ → ℕ
approximate_of s x t = approximate_l x (h_at s t) * 1_000

-- "b is read at it. The size of L is (|x'| − a·b)/H to 0.001"
unfoldable pub size_of : List ℕ → ℕ → ℕ → ℤ
size_of s x t = size_of_l x (a_at s t) (b_at s (approximate_of s x t)) (h_at s t)

-- Some rounding from the latitude on met a half: H, a, approximate L, b, and the size of L.
unfoldable pub size_half : List ℕ → ℕ → ℕ → Bool
size_half s x t = h_half s t || a_half s t || approximate_l_half x (h_at s t) || b_half s (approximate_of s x t) || size_of_l_half x (a_at s t) (b_at s (approximate_of s x t)) (h_at s t)

-- "with the sign of x'. Longitude = central meridian − L."
unfoldable pub longitude_of : List ℕ → ℤ → ℕ → ℤ
longitude_of s xp t = central_meridian_of s -ℤ with_sign xp (size_of s (nat_abs xp) t)

-- The point on the earth. `met`, here and below: some rounding before met a half.
unfoldable pub geographic_at : List ℕ → ℤ → ℕ → Bool → GeographicTold
geographic_at s xp t met = geographic 0 (first_latitude_of s +ℤ pos t) (longitude_of s xp t) (met || size_half s (nat_abs xp) t)

-- "inverse 12, 13, 14, 11", on a sheet that passes, in three parts, written last part first: `inverse_of` goes on to `from_reduced`, and that to `from_distance`.
-- From the latitude on: 11, where "the size of L (.. approximate or final)" is "above the last kind 3 row".
unfoldable pub from_distance : List ℕ → ℤ → ℕ → Bool → GeographicTold
from_distance s xp t met =
    need (size_known s (pos (approximate_of s (nat_abs xp) t))) (no_geographic 11)
    (need (size_known s (size_of s (nat_abs xp) t)) (no_geographic 11)
    (geographic_at s xp t met))

-- From the reduced northing on: 14, then the latitude.
unfoldable pub from_reduced : List ℕ → ℤ → ℤ → Bool → GeographicTold
from_reduced s xp reduced met = need (reduced_known s reduced) (no_geographic 14) (from_distance s xp (distance_of s reduced) (met || distance_half s reduced))

-- From x and y on: 12, 13, then the reduced northing.
unfoldable pub inverse_of : List ℕ → ℤ → ℤ → GeographicTold
inverse_of s x y =
    need (easting_known s (x_prime s x)) (no_geographic 12)
    (need (northing_known s y) (no_geographic 13)
    (from_reduced s (x_prime s x) (reduced_northing s (nat_abs (x_prime s x)) y) (reduced_half s (nat_abs (x_prime s x)) y)))

-- ---- the same in parts: reading the figures, and working on figures alone, so that figures read in another way are worked by the same definitions. The work has four steps, and each
-- needs figures that the one before decides: P and d give the reduced northing; its row's two y0 the seconds; H and a there approximate L; b there the size of L. y0 and b are
-- read as above. That the work on a sheet's figures gives the definitions above, `Longitudes` and `Distances` prove.
-- "P is read at y, d at |x'|."
unfoldable pub for_reduction : List ℕ → ℕ → ℤ → ForReduction
for_reduction s x y = record { p = record { value = p_at s (nat_abs y); half = p_half s (nat_abs y) }; d = record { value = d_at s x; half = d_half s x } }

unfoldable pub reduced_by : ForReduction → ℕ → ℤ → ℤ
reduced_by f x y = y -ℤ reduction f.p.value x f.d.value

unfoldable pub reduced_by_half : ForReduction → ℕ → Bool
reduced_by_half f x = f.p.half || f.d.half || reduction_half f.p.value x f.d.value

-- "seconds = 60(reduced − y0)/(y0 next − y0), to 0.001"
unfoldable pub seconds_by : ℤ → ℤ → ℤ → ℕ
seconds_by y0 next reduced = seconds one_minute (nat_abs (reduced -ℤ y0)) (nat_abs (next -ℤ y0))

unfoldable pub seconds_by_half : ℤ → ℤ → ℤ → Bool
seconds_by_half y0 next reduced = seconds_half one_minute (nat_abs (reduced -ℤ y0)) (nat_abs (next -ℤ y0))

-- "Read H and a there."
unfoldable pub taken_at : List ℕ → ℕ → Taken
taken_at s t = record { h = record { value = h_at s t; half = h_half s t }; a = record { value = a_at s t; half = a_half s t } }

unfoldable pub approximate_by : ℕ → ℕ → ℕ
approximate_by h x = approximate_l x h * 1_000

-- "The size of L is (|x'| − a·b)/H to 0.001"
unfoldable pub size_by : Taken → ℤ → ℕ → ℤ
size_by f b x = size_of_l x f.a.value b f.h.value

-- `met`: approximate L was rounded from a half.
unfoldable pub size_by_half : Taken → Rounded ℤ → ℕ → Bool → Bool
size_by_half f b x met = f.h.half || f.a.half || met || b.half || size_of_l_half x f.a.value b.value f.h.value
