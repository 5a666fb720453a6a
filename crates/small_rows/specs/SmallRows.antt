-- The faults of a row of the small bodies, all but latitude, kind by kind: first from the row's figures (in kind 3 also the next row's), then of row i, counted from 0, of the body b: the part
-- of the sheet that holds its n rows.
-- Each fault is a number, 0 for none: 6 "a figure outside its range"; 8 "a row difference outside its bounds". "row 0 is 0" is a range too, so 6.
-- The figures stand in the order of the table of kinds, with its units and ranges; in the quotes b is a figure of kind 3. The quotes leave out the steps,
-- which only reading between rows needs.
use Rattle.std.specs.Prelude.{Bool, true, false, not, ◌||◌, List, ℕ, ◌+◌, ◌*◌, eqb, ℤ, pos, neg_ℤ}
use Rattle.words.specs.Words.{word_at}
use Rattle.refusals.specs.Ladder.{need, where_below}
use Rattle.entries.specs.Layout.{zone, longitude, northing, easting, scale, width_of}
use Rattle.refusals.specs.Tests.{in_range}
use Rattle.rules.specs.Limits.{rises}
use Rattle.small_rows.specs.declared.ZoneRow.{ZoneRow}
use Rattle.small_rows.specs.declared.LongitudeRow.{LongitudeRow}
use Rattle.small_rows.specs.declared.NorthingRow.{NorthingRow}

-- Whether the figure x may stand in a row: in the first only 0 may, in a later row any.
unfoldable pub zero_where : Bool → ℤ → Bool
zero_where first x = not first || in_range (pos 0) x (pos 0)

-- ---- kind 1
-- "1 zone": "central meridian (0.001″); false easting C (0.01 ft)", "6,000,000 to 642,000,000; 0 to 100,000,000"
unfoldable pub zone_row_fault : ZoneRow → ℕ
zone_row_fault row =
    need (in_range (pos 6_000_000) row.central_meridian (pos 642_000_000)) 6
    (need (in_range (pos 0) row.false_easting (pos 100_000_000)) 6
    0)

abbrev pub zone_at : List ℕ → ℕ → ZoneRow
zone_at b i = record { central_meridian = word_at b (width_of zone * i); false_easting = word_at b (width_of zone * i + 1) }

unfoldable pub zone_fault : List ℕ → ℕ → ℕ
zone_fault b i = zone_row_fault (zone_at b i)

-- ---- kind 3
-- "3 longitude": "b (0.001); c (0.001)", "b ±20,000, c ±2,000; row 0 both 0", 6; then "Next b's differ by at most 1,000", 8. The last row has no next.
unfoldable pub longitude_row_fault : LongitudeRow → LongitudeRow → Bool → Bool → ℕ
longitude_row_fault row next first last =
    need (in_range (neg_ℤ (pos 20_000)) row.b (pos 20_000)) 6
    (need (in_range (neg_ℤ (pos 2_000)) row.c (pos 2_000)) 6
    (need (zero_where first row.b) 6
    (need (zero_where first row.c) 6
    (need (last || rises row.b next.b (neg_ℤ (pos 1_000)) (pos 1_000)) 8
    0))))

abbrev pub longitude_at : List ℕ → ℕ → LongitudeRow
longitude_at b i = record { b = word_at b (width_of longitude * i); c = word_at b (width_of longitude * i + 1) }

-- Row i of n has a next where i + 1 is below n.
unfoldable pub longitude_fault : List ℕ → ℕ → ℕ → ℕ
longitude_fault b n i =
    where_below (i + 1) n (longitude_row_fault (longitude_at b i) (longitude_at b (i + 1)) (eqb i 0) false)
    (longitude_row_fault (longitude_at b i) (longitude_at b i) (eqb i 0) true)

-- ---- kind 4
-- "4 northing": "P (0.00001); M (10⁻⁷)", "0 to 1,000,000; 0 to 1,000,000"
unfoldable pub northing_row_fault : NorthingRow → ℕ
northing_row_fault row =
    need (in_range (pos 0) row.p (pos 1_000_000)) 6
    (need (in_range (pos 0) row.m (pos 1_000_000)) 6
    0)

abbrev pub northing_at : List ℕ → ℕ → NorthingRow
northing_at b i = record { p = word_at b (width_of northing * i); m = word_at b (width_of northing * i + 1) }

unfoldable pub northing_fault : List ℕ → ℕ → ℕ
northing_fault b i = northing_row_fault (northing_at b i)

-- ---- kind 5
-- "5 easting": "d (0.01 ft)", "±100; row 0 is 0"
unfoldable pub easting_row_fault : ℤ → Bool → ℕ
easting_row_fault d first =
    need (in_range (neg_ℤ (pos 100)) d (pos 100)) 6
    (need (zero_where first d) 6
    0)

abbrev pub easting_at : List ℕ → ℕ → ℤ
easting_at b i = word_at b (width_of easting * i)

unfoldable pub easting_fault : List ℕ → ℕ → ℕ
easting_fault b i = easting_row_fault (easting_at b i) (eqb i 0)

-- ---- kind 6
-- "6 scale": "k (10⁻⁷)", "9,990,000 to 10,010,000"
unfoldable pub scale_row_fault : ℤ → ℕ
scale_row_fault k =
    need (in_range (pos 9_990_000) k (pos 10_010_000)) 6
    0

abbrev pub scale_at : List ℕ → ℕ → ℤ
scale_at b i = word_at b (width_of scale * i)

unfoldable pub scale_fault : List ℕ → ℕ → ℕ
scale_fault b i = scale_row_fault (scale_at b i)
