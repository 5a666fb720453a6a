-- The figures of a sheet that passes keep their ranges, at its rows and between them; and y0 rises from row to row. Assumes nothing.
use mathlib.Core.Path.{◌≡◌, sym}
use mathlib.Core.Bool.{true}
use mathlib.Core.List.{List}
use Prim.Native.Nat.{ℕ, ◌+◌, ◌*◌, ◌-◌, ◌<◌, ◌≤◌, zero-le}
use native.Mathlib.Nat.{add-zero}
use native.Mathlib.Omega.{arith}
use borrow.Author.Tests.{le-leb}
use lib.Dec.{lit<, lit≤}
use lib.IntN.{ℤ, pos, nat_abs}
use lib.Signed.{le_z}
use Rattle.rounding.specs.Ranges.{most_h, most_v, most_a, most_b, most_c, most_p, most_m, most_d}
use Rattle.rounding.proofs.Sizes.{Size, times_most}
use Rattle.rules.specs.Latitude.{least_rise, most_rise}
use Rattle.rules.proofs.WhatPasses.{InRange, range_size, range_most}
use Rattle.latitude_rows.specs.Rows.{figures_at}
use Rattle.latitude_rows.proofs.PassingFigures.{minute_in_range, figures_in_range_lem, figures-within}
use Rattle.small_rows.proofs.PassingFigures.{b_most}
use Rattle.entries.specs.Layout.{last_kind, least_rows, zone, latitude, longitude, northing, easting, scale, one_minute}
use Rattle.entries.specs.Entries.{rows_of, step_of, last_of, body_of, Within}
use Rattle.contents.proofs.Passing.{rows_some, rows_least, step_usual}
use Rattle.sheet_check.specs.Check.{check_of}
use Rattle.sheet_check.proofs.Known.{contents-none}
use Rattle.sheet_check.proofs.Sound.{passes_sound, zone_rows, latitude_rows, longitude_rows, northing_rows, easting_rows, scale_rows}
use Rattle.reading.specs.Tables.{NotNegative}
use Rattle.row_search.specs.Rows.{RisesBy, Rising}
use Rattle.row_search.proofs.Rising.{rises-rising}
use Rattle.reading.proofs.Values.{value_most, value_size, value_slope}
use Rattle.tables.specs.Figures.{figure_of, figure_at, figure_half, latitude_at, latitude_half, central_meridian_of, false_easting_of, first_latitude_of, y0_of, y0_at, h_at, a_at, b_at, c_at, d_at, k_at}
use Rattle.tables.proofs.Parts.{step_above}

-- a size is not negative
not_below : {low high : ℕ} (x : ℤ) → Size low x high → le_z (pos 0) x ≡ true
not_below x h = rw h.is (le-leb 0 (nat_abs x) zero-le)

-- rows that are sizes are not negative
all_sizes : (f : ℕ → ℤ) (n low high : ℕ) → ((i : ℕ) → i < n → Size low (f i) high) → NotNegative f n
unfolding NotNegative
all_sizes f n low high all i h = not_below (f i) (all i h)

module _ (s : List ℕ) (z : (check_of s).number ≡ 0) where
  some : (kind : ℕ) → 1 ≤ kind → kind ≤ last_kind → 0 < rows_of s kind
  some kind l h = rows_some s (contents-none s z) kind l h

  above : (kind : ℕ) → 1 ≤ kind → kind ≤ last_kind → 2 ≤ least_rows kind → 0 < step_of s kind
  above kind l h two = step_above s (contents-none s z) kind l h two

  pub zone-some : 0 < rows_of s zone
  zone-some = some zone (omega arith) (omega arith)

  pub latitude-some : 0 < rows_of s latitude
  latitude-some = some latitude (omega arith) (omega arith)

  pub latitude-two : 2 ≤ rows_of s latitude
  latitude-two = rows_least s (contents-none s z) latitude (lit≤ tt) (lit≤ tt)

  -- the latitude rows stand a minute apart
  pub minute_step : one_minute ≡ step_of s latitude
  minute_step = sym (step_usual s (contents-none s z) latitude (lit≤ tt) (lit≤ tt))

  pub latitude_is : (number t : ℕ) → figure_at s latitude number t ≡ latitude_at s number t
  latitude_is number t = rw minute_step

  pub latitude-half_is : (number t : ℕ) → figure_half s latitude number t ≡ latitude_half s number t
  latitude-half_is number t = rw minute_step

  -- a latitude's distance from row 0 that lies within the table, and the other way
  pub minutes_most : (t : ℕ) → Within s latitude t → t ≤ (rows_of s latitude - 1) * one_minute
  unfolding last_of
  minutes_most t h = rw (step_usual s (contents-none s z) latitude (lit≤ tt) (lit≤ tt)) at h.most

  pub within_minutes : (t : ℕ) → t ≤ (rows_of s latitude - 1) * one_minute → Within s latitude t
  unfolding last_of
  within_minutes t h = record { most = rw (step_usual s (contents-none s z) latitude (lit≤ tt) (lit≤ tt)) h }

  -- ---- zone
  pub central_size : Size 6_000_000 (central_meridian_of s) 642_000_000
  unfolding central_meridian_of
  central_size = range_size 6_000_000 (figure_of s zone 0 0) 642_000_000 (zone_rows s (passes_sound s z) 0 zone-some).central_meridian

  pub easting_size : Size 0 (false_easting_of s) 100_000_000
  unfolding false_easting_of
  easting_size = range_size 0 (figure_of s zone 1 0) 100_000_000 (zone_rows s (passes_sound s z) 0 zone-some).false-easting

  -- none of these is negative
  pub central_sign : le_z (pos 0) (figure_of s zone 0 0) ≡ true
  unfolding central_meridian_of
  central_sign = not_below (figure_of s zone 0 0) central_size

  pub easting_sign : le_z (pos 0) (figure_of s zone 1 0) ≡ true
  unfolding false_easting_of
  easting_sign = not_below (figure_of s zone 1 0) easting_size

  -- ---- latitude
  pub minute_size : Size 0 (figure_of s latitude 0 0) 5_400
  minute_size = minute_in_range (body_of s latitude) (rows_of s latitude) (latitude_rows s (passes_sound s z)) 0 latitude-some

  pub first_most : nat_abs (first_latitude_of s) ≤ 324_000_000
  unfolding first_latitude_of
  first_most = times_most (figure_of s latitude 0 0) (pos one_minute) {A = 5_400} {B = one_minute} minute_size.high (lit≤ tt)

  in_range_lem : (i : ℕ) → i < rows_of s latitude → InRange (figures_at (body_of s latitude) i)
  in_range_lem i h = figures_in_range_lem (body_of s latitude) (rows_of s latitude) (latitude_rows s (passes_sound s z)) i h

  pub y0_size : (i : ℕ) → i < rows_of s latitude → Size 0 (y0_of s i) 999_999_999
  unfolding y0_of figures_at
  y0_size i h = (in_range_lem i h).y0

  pub minute_sign : le_z (pos 0) (figure_of s latitude 0 0) ≡ true
  minute_sign = not_below (figure_of s latitude 0 0) minute_size

  pub y0_sign : (i : ℕ) → i < rows_of s latitude → le_z (pos 0) (figure_of s latitude 1 i) ≡ true
  unfolding y0_of
  y0_sign i h = not_below (figure_of s latitude 1 i) (y0_size i h)

  -- y0 rises from a row to the next by no less and no more than the bounds
  pub y0_rises : RisesBy (y0_of s) (rows_of s latitude) least_rise most_rise
  unfolding RisesBy y0_of figures_at
  y0_rises i h =
      let this = (in_range_lem i (omega arith)).y0 in
      let next = (in_range_lem (i + 1) h).y0 in
      let up = (figures-within (body_of s latitude) (rows_of s latitude) (latitude_rows s (passes_sound s z)) i h).y0 in (
        rw (this.is, next.is) (le-leb _ _ up.0),
        rw (this.is, next.is) (le-leb _ _ up.1),
      )

  pub y0_rising : Rising (y0_of s) (rows_of s latitude)
  y0_rising = rises-rising (y0_of s) (rows_of s latitude) least_rise most_rise y0_rises (lit< tt)

  -- the columns in which no figure is negative
  pub y0_rows : NotNegative (figure_of s latitude 1) (rows_of s latitude)
  unfolding figures_at
  y0_rows = all_sizes (figure_of s latitude 1) (rows_of s latitude) 0 999_999_999 (λ i l. (in_range_lem i l).y0)

  pub h_rows : NotNegative (figure_of s latitude 3) (rows_of s latitude)
  unfolding figures_at
  h_rows = all_sizes (figure_of s latitude 3) (rows_of s latitude) 30_000_000 most_h (λ i l. (in_range_lem i l).h)

  pub v_rows : NotNegative (figure_of s latitude 5) (rows_of s latitude)
  unfolding figures_at
  v_rows = all_sizes (figure_of s latitude 5) (rows_of s latitude) 0 most_v (λ i l. (in_range_lem i l).v)

  module _ (t : ℕ) (h : Within s latitude t) where
    pub y0_between : Size 0 (y0_at s t) 999_999_999
    unfolding y0_at figures_at
    y0_between =
        value_size (figure_of s latitude 1) (rows_of s latitude) one_minute t (lit< tt) latitude-some (minutes_most t h) 0 999_999_999 (λ i l. (in_range_lem i l).y0)

    pub h_between : Size 30_000_000 (latitude_at s 3 t) most_h
    unfolding figures_at
    h_between =
        value_size (figure_of s latitude 3) (rows_of s latitude) one_minute t (lit< tt) latitude-some (minutes_most t h) 30_000_000 most_h (λ i l. (in_range_lem i l).h)

    pub h_least : 30_000_000 ≤ h_at s t
    unfolding h_at
    h_least = h_between.low

    pub v_between : Size 0 (latitude_at s 5 t) most_v
    unfolding figures_at
    v_between =
        value_size (figure_of s latitude 5) (rows_of s latitude) one_minute t (lit< tt) latitude-some (minutes_most t h) 0 most_v (λ i l. (in_range_lem i l).v)

    pub a_most : nat_abs (a_at s t) ≤ most_a
    unfolding a_at figures_at
    a_most =
        value_most (figure_of s latitude 7) (rows_of s latitude) one_minute t (lit< tt) latitude-some (minutes_most t h) most_a (λ i l. (in_range_lem i l).a)

  -- ---- longitude
  module _ (size : ℕ) (h : Within s longitude size) where
    pub b_between : nat_abs (b_at s size) ≤ most_b
    unfolding last_of b_at
    b_between =
        value_most (figure_of s longitude 0) (rows_of s longitude) (step_of s longitude) size (above longitude (omega arith) (omega arith) (omega arith)) (some longitude (omega arith) (omega arith)) h.most most_b
        (λ i l. rw add-zero (range_most most_b _ (longitude_rows s (passes_sound s z) i l).b_range))

    -- "Next b's differ by at most 1,000", 10 a second, and row 0's is 0
    pub b_slope : nat_abs (b_at s size) ≤ size
    unfolding last_of b_at
    b_slope =
        value_slope (figure_of s longitude 0) (rows_of s longitude) (step_of s longitude) size (above longitude (omega arith) (omega arith) (omega arith)) (some longitude (omega arith) (omega arith)) h.most 1_000 (rw (step_usual s (contents-none s z) longitude (lit≤ tt) (lit≤ tt)) (lit≤ tt))
        (λ i l. rw add-zero (b_most (body_of s longitude) (rows_of s longitude) (longitude_rows s (passes_sound s z)) i l))

    pub c_between : nat_abs (c_at s size) ≤ most_c
    unfolding last_of c_at
    c_between =
        value_most (figure_of s longitude 1) (rows_of s longitude) (step_of s longitude) size (above longitude (omega arith) (omega arith) (omega arith)) (some longitude (omega arith) (omega arith)) h.most most_c
        (λ i l. range_most most_c (figure_of s longitude 1 i) (longitude_rows s (passes_sound s z) i l).c_range)

  -- ---- northing
  p_row : (i : ℕ) → i < rows_of s northing → Size 0 (figure_of s northing 0 i) most_p
  p_row i l = rw add-zero (range_size 0 _ most_p (northing_rows s (passes_sound s z) i l).p_range)

  m_row : (i : ℕ) → i < rows_of s northing → Size 0 (figure_of s northing 1 i) most_m
  m_row i l = range_size 0 (figure_of s northing 1 i) most_m (northing_rows s (passes_sound s z) i l).m_range

  pub p_rows : NotNegative (figure_of s northing 0) (rows_of s northing)
  p_rows = all_sizes (figure_of s northing 0) (rows_of s northing) 0 most_p p_row

  pub m_rows : NotNegative (figure_of s northing 1) (rows_of s northing)
  m_rows = all_sizes (figure_of s northing 1) (rows_of s northing) 0 most_m m_row

  module _ (y : ℕ) (h : Within s northing y) where
    pub p_between : Size 0 (figure_at s northing 0 y) most_p
    unfolding last_of
    p_between =
        value_size (figure_of s northing 0) (rows_of s northing) (step_of s northing) y (above northing (omega arith) (omega arith) (omega arith)) (some northing (omega arith) (omega arith)) h.most 0 most_p p_row

    pub m_between : Size 0 (figure_at s northing 1 y) most_m
    unfolding last_of
    m_between =
        value_size (figure_of s northing 1) (rows_of s northing) (step_of s northing) y (above northing (omega arith) (omega arith) (omega arith)) (some northing (omega arith) (omega arith)) h.most 0 most_m m_row

  -- ---- easting and scale
  pub d_between : (size : ℕ) → Within s easting size → nat_abs (d_at s size) ≤ most_d
  unfolding last_of d_at
  d_between size h =
      value_most (λ i. figure_of s easting 0 i) (rows_of s easting) (step_of s easting) size (above easting (omega arith) (omega arith) (omega arith)) (some easting (omega arith) (omega arith)) h.most most_d
      (λ i l. rw add-zero (range_most most_d _ (easting_rows s (passes_sound s z) i l).d_range))

  k_row : (i : ℕ) → i < rows_of s scale → Size 9_990_000 (figure_of s scale 0 i) 10_010_000
  k_row i l = rw add-zero (range_size 9_990_000 _ 10_010_000 (scale_rows s (passes_sound s z) i l).k_range)

  pub k_rows : NotNegative (figure_of s scale 0) (rows_of s scale)
  k_rows = all_sizes (figure_of s scale 0) (rows_of s scale) 9_990_000 10_010_000 k_row

  pub k_between : (size : ℕ) → Within s scale size → Size 9_990_000 (k_at s size) 10_010_000
  unfolding last_of k_at
  k_between size h =
      value_size (figure_of s scale 0) (rows_of s scale) (step_of s scale) size (above scale (omega arith) (omega arith) (omega arith)) (some scale (omega arith) (omega arith)) h.most 9_990_000 10_010_000 k_row
