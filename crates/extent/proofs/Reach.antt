-- How far the tables of a sheet that passes reach, and what a test that a point passes shows of it. Assumes nothing.
use mathlib.Core.Path.{◌≡◌}
use mathlib.Core.Bool.{true, ◌&&◌}
use mathlib.Core.List.{List}
use Prim.Native.Nat.{ℕ, ◌-◌, ◌*◌, ◌≤◌}
use native.Mathlib.Nat.{le_trans}
use native.Mathlib.Omega.{arith}
use lib.Dec.{lit≤}
use lib.IntN.{ℤ, pos, nat_abs}
use lib.Signed.{le_z}
use Rattle.rounding.specs.Ranges.{most_s}
use Rattle.rounding.proofs.Sizes.{Size}
use Rattle.rounding.proofs.Tests.{both}
use Rattle.entries.specs.Layout.{latitude, longitude, northing, easting, scale, most_rows, one_minute, farthest}
use Rattle.entries.specs.Entries.{rows_of, step_of, last_of, Within}
use Rattle.contents.proofs.Passing.{rows_most, step_usual}
use Rattle.sheet_check.specs.Check.{check_of}
use Rattle.sheet_check.proofs.Known.{contents-none}
use Rattle.reading.proofs.Span.{within_rows_size}
use Rattle.tables.specs.Figures.{y0_of}
use Rattle.tables.proofs.Ranges.{within_minutes}
use Rattle.extent.specs.Extent.{from_first, latitude_known, l_of, size_known, longitude_known, easting_known, scale_known, northing_known, reduced_known}

-- ---- the last row's distance from row 0
module _ (s : List ℕ) (z : (check_of s).number ≡ 0) where
  pub latitude_count : rows_of s latitude ≤ most_rows latitude
  latitude_count = rows_most s (contents-none s z) latitude (lit≤ tt) (lit≤ tt)

  pub latitude_span : (rows_of s latitude - 1) * one_minute ≤ farthest latitude
  latitude_span = omega (arith, latitude_count)

  pub longitude_span : last_of s longitude ≤ most_s
  unfolding last_of
  longitude_span = rw (step_usual s (contents-none s z) longitude (lit≤ tt) (lit≤ tt)) (omega (arith, rows_most s (contents-none s z) longitude (lit≤ tt) (lit≤ tt)))

  pub northing_span : last_of s northing ≤ farthest northing
  unfolding last_of
  northing_span = rw (step_usual s (contents-none s z) northing (lit≤ tt) (lit≤ tt)) (omega (arith, rows_most s (contents-none s z) northing (lit≤ tt) (lit≤ tt)))

  pub easting_span : last_of s easting ≤ farthest easting
  unfolding last_of
  easting_span = rw (step_usual s (contents-none s z) easting (lit≤ tt) (lit≤ tt)) (omega (arith, rows_most s (contents-none s z) easting (lit≤ tt) (lit≤ tt)))

  pub scale_span : last_of s scale ≤ farthest scale
  unfolding last_of
  scale_span = rw (step_usual s (contents-none s z) scale (lit≤ tt) (lit≤ tt)) (omega (arith, rows_most s (contents-none s z) scale (lit≤ tt) (lit≤ tt)))

-- ---- a point that passes the test
module _ (s : List ℕ) where
  pub latitude_reach : (north : ℤ) → latitude_known s north ≡ true → Size 0 (from_first s north) ((rows_of s latitude - 1) * one_minute)
  unfolding latitude_known
  latitude_reach north e = within_rows_size (rows_of s latitude) one_minute (from_first s north) e

  pub latitude-within : (check_of s).number ≡ 0 → (north : ℤ) → latitude_known s north ≡ true → Within s latitude (nat_abs (from_first s north))
  latitude-within z north e = within_minutes s z (nat_abs (from_first s north)) (latitude_reach north e).high

  pub size_reach : (size : ℤ) → size_known s size ≡ true → Size 0 size (last_of s longitude)
  unfolding size_known last_of
  size_reach size e = within_rows_size (rows_of s longitude) (step_of s longitude) size e

  pub size_within : (size : ℤ) → size_known s size ≡ true → Within s longitude (nat_abs size)
  size_within size e = record { most = (size_reach size e).high }

  pub longitude-within : (west : ℤ) → longitude_known s west ≡ true → Within s longitude (nat_abs (l_of s west))
  unfolding longitude_known
  longitude-within west e =
      let parts = both (le_z (pos 0) west && le_z west (pos 648_000_000)) (size_known s (pos (nat_abs (l_of s west)))) e in
      size_within (pos (nat_abs (l_of s west))) parts.1

  pub easting-within : (xp : ℤ) → easting_known s xp ≡ true → Within s easting (nat_abs xp)
  unfolding easting_known last_of
  easting-within xp e = record { most = (within_rows_size (rows_of s easting) (step_of s easting) (pos (nat_abs xp)) e).high }

  pub scale-within : (xp : ℤ) → scale_known s xp ≡ true → Within s scale (nat_abs xp)
  unfolding scale_known last_of
  scale-within xp e = record { most = (within_rows_size (rows_of s scale) (step_of s scale) (pos (nat_abs xp)) e).high }

  pub northing_reach : (y : ℤ) → northing_known s y ≡ true → Size 0 y (last_of s northing)
  unfolding northing_known last_of
  northing_reach y e = within_rows_size (rows_of s northing) (step_of s northing) y e

  pub northing-within : (y : ℤ) → northing_known s y ≡ true → Within s northing (nat_abs y)
  northing-within y e = record { most = (northing_reach y e).high }

  pub reduced_reach : (reduced : ℤ) → reduced_known s reduced ≡ true → (le_z (y0_of s 0) reduced ≡ true) × (le_z reduced (y0_of s (rows_of s latitude - 1)) ≡ true)
  unfolding reduced_known
  reduced_reach reduced e = both _ _ e

  -- a latitude's distance from row 0 is a small number
  pub latitude-small : (check_of s).number ≡ 0 → (north : ℤ) → latitude_known s north ≡ true → Size 0 (from_first s north) (farthest latitude)
  latitude-small z north e =
      let r = latitude_reach north e in
      record { is = r.is; low = r.low; high = le_trans r.high (latitude_span s z) }
