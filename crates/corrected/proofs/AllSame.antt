-- Two sheets that differ in no latitude row's figures answer every point alike. Assumes nothing.
use mathlib.Core.Path.{◌≡◌, ap}
use mathlib.Core.Bool.{Bool, ◌||◌}
use mathlib.Core.List.{List}
use mathlib.Core.Logic.{inl}
use Prim.Native.Nat.{ℕ, ◌+◌, ◌-◌}
use native.Mathlib.Omega.{arith}
use lib.IntN.{ℤ, nat_abs}
use lib.Signed.{le_z}
use Rattle.entries.specs.Layout.{latitude}
use Rattle.entries.specs.Entries.{rows_of}
use Rattle.row_search.proofs.SameRow.{same_row}
use Rattle.tables.specs.Figures.{y0_of}
use Rattle.extent.specs.Extent.{from_first, x_prime, reduced_known}
use Rattle.forward.specs.Forward.{forward_of}
use Rattle.inverse.specs.Inverse.{reduced_northing, reduced_half, row_of, seconds_past, seconds_past_half, distance_of, distance_half, from_reduced, inverse_of}
use Rattle.corrected.proofs.Beside.{Beside, Outside, latitude_rows, x_prime_same, easting-same, northing-same, y0_row-same}
use Rattle.corrected.proofs.SameAnswers.{same_rung, forward-same, from_distance_same, reduced_same, reduced_half-same}

module _ (s t : List ℕ) (same : (r : ℕ) → Beside s t r) where
  -- every distance lies outside the intervals beside some row that is far enough
  below_far : (d : ℕ) → Outside (d + 2) d
  below_far d = inl (omega arith, omega arith)

  pub forward_all : (north west : ℤ) → forward_of t north west ≡ forward_of s north west
  forward_all north west = let d = nat_abs (from_first s north) in forward-same s t (d + 2) (same (d + 2)) north west (λ k l. below_far d)

  y0_all : (i : ℕ) → y0_of t i ≡ y0_of s i
  y0_all i = y0_row-same s t (i + 1) (same (i + 1)) i (λ e. omega arith)

  rows_all : rows_of t latitude ≡ rows_of s latitude
  rows_all = latitude_rows s t 0 (same 0)

  known_all : (z : ℤ) → reduced_known t z ≡ reduced_known s z
  unfolding reduced_known
  known_all z = rw (rows_all, y0_all 0, y0_all (rows_of s latitude - 1))

  row_all : (z : ℤ) → row_of t z ≡ row_of s z
  unfolding row_of
  row_all z = rw rows_all (same_row (y0_of t) (y0_of s) (rows_of s latitude) z (λ i h. ap (λ (x : ℤ). le_z x z) (y0_all i)))

  seconds_all : (z : ℤ) (i : ℕ) → seconds_past t z i ≡ seconds_past s z i
  unfolding seconds_past
  seconds_all z i = rw (rows_all, y0_all i, y0_all (i + 1))

  distance_all : (z : ℤ) → distance_of t z ≡ distance_of s z
  unfolding distance_of
  distance_all z = rw (row_all z, seconds_all z (row_of s z))

  distance_half_all : (z : ℤ) → distance_half t z ≡ distance_half s z
  unfolding distance_half seconds_past_half
  distance_half_all z = rw (row_all z, rows_all, y0_all (row_of s z), y0_all (row_of s z + 1))

  from_reduced_all : (xp z : ℤ) (met : Bool) → from_reduced t xp z met ≡ from_reduced s xp z met
  unfolding from_reduced
  from_reduced_all xp z met =
      let d = distance_of s z in
      rw (known_all z, distance_all z, distance_half_all z)
      (same_rung (reduced_known s z) _ _ _ (λ k. from_distance_same s t (d + 2) (same (d + 2)) d (below_far d) xp (met || distance_half s z)))

  pub inverse_all : (x y : ℤ) → inverse_of t x y ≡ inverse_of s x y
  unfolding inverse_of
  inverse_all x y =
      rw (
        x_prime_same s t 0 (same 0) x,
        easting-same s t 0 (same 0) (x_prime s x),
        northing-same s t 0 (same 0) y,
        reduced_same s t 0 (same 0) (nat_abs (x_prime s x)) y,
        reduced_half-same s t 0 (same 0) (nat_abs (x_prime s x)) y,
        from_reduced_all (x_prime s x) (reduced_northing s (nat_abs (x_prime s x)) y) (reduced_half s (nat_abs (x_prime s x)) y),
      )
