-- Where a point stands in a sheet's tables, and whether that is within their rows: the tests behind numbers 10 to 14. A number is due where its test is reached and false; which
-- tests come first, the conversions say. s is the sheet, north and west are a latitude and a west longitude in 0.001″, x and y are in 0.01 ft, and xp is x'.
use Rattle.std.specs.Prelude.{Bool, ◌&&◌, List, ℕ, ◌-◌, ℤ, pos, nat_abs, ◌-ℤ◌}
use Rattle.std.specs.Int.Signed.{le_z}
use Rattle.entries.specs.Layout.{latitude, longitude, northing, easting, scale, one_minute}
use Rattle.entries.specs.Entries.{rows_of, step_of}
use Rattle.reading.specs.Tables.{within_rows}
use Rattle.tables.specs.Figures.{central_meridian_of, false_easting_of, first_latitude_of, y0_of}

-- The latitude's distance from row 0.
unfoldable pub from_first : List ℕ → ℤ → ℤ
from_first s north = north -ℤ first_latitude_of s

-- For 10, "latitude below the first or above the last row". With n rows the last stands n − 1 minutes after the first.
unfoldable pub latitude_known : List ℕ → ℤ → Bool
latitude_known s north = within_rows (rows_of s latitude) one_minute (from_first s north)

-- "L = central meridian − longitude"
unfoldable pub l_of : List ℕ → ℤ → ℤ
l_of s west = central_meridian_of s -ℤ west

-- For 11, "the size of L (given, approximate or final) above the last kind 3 row". The test also asks that the size is not negative: on a sheet that passes that holds of all three.
unfoldable pub size_known : List ℕ → ℤ → Bool
size_known s size = within_rows (rows_of s longitude) (step_of s longitude) size

-- For 11 of geographic to plane: "longitude outside 0 to 648,000,000, or the size of L (given ..) above the last kind 3 row". A longitude whose L lies within
-- kind 3's rows is never outside 0 to 648,000,000, since a central meridian lies at least 6,000″ inside both ends; so plane to geographic, whose longitude is worked, has no such test.
unfoldable pub longitude_known : List ℕ → ℤ → Bool
longitude_known s west = (le_z (pos 0) west && le_z west (pos 648_000_000)) && size_known s (pos (nat_abs (l_of s west)))

-- "x' = x − C."
unfoldable pub x_prime : List ℕ → ℤ → ℤ
x_prime s x = x -ℤ false_easting_of s

-- For 12 of plane to geographic: "x' in size above the last row of kind 5"
unfoldable pub easting_known : List ℕ → ℤ → Bool
easting_known s xp = within_rows (rows_of s easting) (step_of s easting) (pos (nat_abs xp))

-- For 12 of convergence and scale: "x' in size above the last row .. of kind 6"
unfoldable pub scale_known : List ℕ → ℤ → Bool
scale_known s xp = within_rows (rows_of s scale) (step_of s scale) (pos (nat_abs xp))

-- For 13, "y below 0 or above the last kind 4 row"
unfoldable pub northing_known : List ℕ → ℤ → Bool
northing_known s y = within_rows (rows_of s northing) (step_of s northing) y

-- For 14, "reduced northing below the first or above the last y0"
unfoldable pub reduced_known : List ℕ → ℤ → Bool
reduced_known s reduced = le_z (y0_of s 0) reduced && le_z reduced (y0_of s (rows_of s latitude - 1))
