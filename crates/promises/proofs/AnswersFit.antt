-- On every sheet, and for every point, both values of each conversion's answer fit 32 bits: on a sheet that passes they are within the figures' ranges, and a refusal carries
-- zeros. Assumes nothing.
use mathlib.Core.Path.{◌≡◌, refl, sym, subst}
use mathlib.Core.Bool.{Bool, true, false}
use mathlib.Core.List.{List}
use Prim.Native.Nat.{ℕ, zero, suc}
use native.Mathlib.Nat.{le_trans}
use native.Mathlib.Omega.{arith}
use lib.Dec.{lit≤}
use lib.IntN.{ℤ, pos, nat_abs, ◌+ℤ◌}
use Rattle.rounding.proofs.Sizes.{sum_most, difference_most, size_with_sign}
use Rattle.rounding.specs.Nearest.{with_sign}
use Rattle.rounding.specs.Ranges.{most_s}
use Rattle.refusals.specs.Ladder.{need}
use Rattle.entries.specs.Layout.{latitude, longitude, farthest}
use Rattle.entries.specs.Entries.{Within}
use Rattle.sheet_check.specs.Check.{check_of}
use Rattle.tables.specs.Figures.{central_meridian_of, first_latitude_of}
use Rattle.tables.proofs.Ranges.{minutes_most, central_size, first_most, k_between}
use Rattle.extent.specs.Extent.{from_first, latitude_known, l_of, longitude_known, size_known, x_prime, easting_known, scale_known, northing_known, reduced_known}
use Rattle.extent.proofs.Reach.{latitude-within, longitude-within, size_reach, scale-within, latitude_span, longitude_span}
use Rattle.forward.specs.Forward.{PlaneTold}
use Rattle.inverse.specs.Inverse.{GeographicTold}
use Rattle.convergence.specs.Grid.{GridTold}
use Rattle.forward.specs.Forward.{no_plane, x_of, y_of, plane_at, plane_from, forward_of}
use Rattle.inverse.specs.Inverse.{no_geographic, approximate_of, size_of, longitude_of, distance_of, reduced_northing, geographic_at, from_distance, from_reduced, inverse_of}
use Rattle.convergence.specs.Grid.{no_grid, grid_at, grid_of}
use Rattle.convert.specs.Conversions.{after_check, geographic_to_plane, plane_to_geographic, convergence_and_scale}
use Rattle.convert.proofs.Checked.{after_pass, after-fault}
use Rattle.forward.proofs.Eastings.{x_most, y_most}
use Rattle.inverse.proofs.Distances.{distance_within}
use Rattle.convergence.proofs.Convergences.{convergence-small}
use Rattle.promises.specs.Conversions.{Fits32}

-- a promise of every answer holds of a ladder where it holds of each rung's answer
rungs : {A : Type 0} (P : A → Type 0) (t : Bool) (x rest : A) → P x → (t ≡ true → P rest) → P (need t x rest)
unfolding need
rungs P true x rest p q = q refl
rungs P false x rest p q = p

checked : {A : Type 0} (P : A → Type 0) (number : A → ℕ) (refuse : ℕ → A) → ((n : ℕ) → number (refuse n) ≡ n) → (s : List ℕ) (rest : A)
    → ((n : ℕ) → P (refuse n)) → ((check_of s).number ≡ 0 → P rest) → P (after_check number refuse s rest)
checked P number refuse carries s rest p q = pick (check_of s).number refl
  where
    pick : (n : ℕ) → (check_of s).number ≡ n → P (after_check number refuse s rest)
    pick zero e = rw (after_pass number refuse carries s rest e) (q e)
    pick (suc n) e = subst P (after-fault number refuse carries s rest (suc n) (sym e) (λ z. omega arith)) (p (suc n))

module _ (s : List ℕ) where
  -- ---- geographic to plane
  pub plane-fits : (north west : ℤ) → Fits32 (geographic_to_plane s north west).x × Fits32 (geographic_to_plane s north west).y
  unfolding geographic_to_plane forward_of plane_at plane_from
  plane-fits north west =
      checked P (λ r. r.number) no_plane (λ n. refl) s (forward_of s north west) (λ n. (lit≤ tt, lit≤ tt))
      (λ z. rungs P (latitude_known s north) (no_plane 10) _ (lit≤ tt, lit≤ tt)
      (λ l. rungs P (longitude_known s west) (no_plane 11) (plane_at s north west) (lit≤ tt, lit≤ tt)
      (λ h. worked z (latitude-within s z north l) (longitude-within s west h))))
    where
      P : PlaneTold → Type 0
      P r = Fits32 r.x × Fits32 r.y

      worked : (check_of s).number ≡ 0 → Within s latitude (nat_abs (from_first s north)) → Within s longitude (nat_abs (l_of s west))
          → Fits32 (x_of s (nat_abs (from_first s north)) (l_of s west)) × Fits32 (y_of s (nat_abs (from_first s north)) (nat_abs (l_of s west)))
      worked z ht hl = (
        le_trans (x_most s z (nat_abs (from_first s north)) ht (l_of s west) hl) (lit≤ tt),
        le_trans (y_most s z (nat_abs (from_first s north)) ht (nat_abs (l_of s west)) hl) (lit≤ tt),
      )

  -- ---- plane to geographic
  -- the latitude and the longitude of a size of L within its table
  latitude-fits : (check_of s).number ≡ 0 → (t : ℕ) → Within s latitude t → Fits32 (first_latitude_of s +ℤ pos t)
  latitude-fits z t h = le_trans (sum_most (first_latitude_of s) (pos t) {A = 324_000_000} {B = farthest latitude} (first_most s z) (le_trans (minutes_most s z t h) (latitude_span s z))) (lit≤ tt)

  longitude-fits : (check_of s).number ≡ 0 → (xp : ℤ) (t : ℕ) → size_known s (size_of s (nat_abs xp) t) ≡ true → Fits32 (longitude_of s xp t)
  unfolding longitude_of
  longitude-fits z xp t known =
      le_trans
      (difference_most (central_meridian_of s) (with_sign xp (size_of s (nat_abs xp) t)) {A = 642_000_000} {B = most_s} (central_size s z).high
      (rw (size_with_sign xp (size_of s (nat_abs xp) t)) (le_trans (size_reach s (size_of s (nat_abs xp) t) known).high (longitude_span s z))))
      (lit≤ tt)

  pub geographic-fits : (x y : ℤ) → Fits32 (plane_to_geographic s x y).latitude × Fits32 (plane_to_geographic s x y).longitude
  unfolding plane_to_geographic inverse_of from_reduced from_distance geographic_at
  geographic-fits x y =
      let xp = x_prime s x in
      let reduced = reduced_northing s (nat_abs xp) y in
      let t = distance_of s reduced in
      checked P (λ r. r.number) no_geographic (λ n. refl) s (inverse_of s x y) (λ n. (lit≤ tt, lit≤ tt))
      (λ z. rungs P (easting_known s xp) (no_geographic 12) _ (lit≤ tt, lit≤ tt)
      (λ e. rungs P (northing_known s y) (no_geographic 13) _ (lit≤ tt, lit≤ tt)
      (λ n. rungs P (reduced_known s reduced) (no_geographic 14) _ (lit≤ tt, lit≤ tt)
      (λ r. rungs P (size_known s (pos (approximate_of s (nat_abs xp) t))) (no_geographic 11) _ (lit≤ tt, lit≤ tt)
      (λ a. rungs P (size_known s (size_of s (nat_abs xp) t)) (no_geographic 11) _ (lit≤ tt, lit≤ tt)
      (λ b. (latitude-fits z t (distance_within s z reduced r), longitude-fits z xp t b)))))))
    where
      P : GeographicTold → Type 0
      P r = Fits32 r.latitude × Fits32 r.longitude

  -- ---- convergence and scale
  pub grid-fits : (x y : ℤ) → Fits32 (convergence_and_scale s x y).convergence × Fits32 (convergence_and_scale s x y).scale
  unfolding convergence_and_scale grid_of grid_at
  grid-fits x y =
      checked P (λ r. r.number) no_grid (λ n. refl) s (grid_of s x y) (λ n. (lit≤ tt, lit≤ tt))
      (λ z. rungs P (scale_known s (x_prime s x)) (no_grid 12) _ (lit≤ tt, lit≤ tt)
      (λ k. rungs P (northing_known s y) (no_grid 13) _ (lit≤ tt, lit≤ tt)
      (λ n. (
        le_trans (convergence-small s (x_prime s x) y z k n) (lit≤ tt),
        le_trans (k_between s z (nat_abs (x_prime s x)) (scale-within s (x_prime s x) k)).high (lit≤ tt),
      ))))
    where
      P : GridTold → Type 0
      P r = Fits32 r.convergence × Fits32 r.scale
