-- On a sheet that passes, what the steps call a size is one: H·s + a·b and |x'| − a·b are never negative, so the sign that is put to the size of x' and of L is the only one. And
-- the longitude of a plane point is never outside 0 to 648,000,000. Assumes nothing.
use mathlib.Core.Path.{◌≡◌, refl, ◌∙◌}
use mathlib.Core.Bool.{true}
use mathlib.Core.List.{List}
use Prim.Native.Nat.{ℕ, ◌+◌, ◌*◌, ◌-◌, ◌≤◌}
use native.Mathlib.Omega.{arith}
use lib.Dec.{T}
use lib.IntN.{ℤ, pos, negsuc, neg_ℤ, nat_abs, ◌+ℤ◌, ◌-ℤ◌, ◌*ℤ◌, neg_ℤ-neg_ℤ}
use lib.Signed.{non_neg}
use Rattle.rounding.specs.Nearest.{with_sign, nearest}
use Rattle.steps.specs.Steps.{size_of_x, size_of_l}
use Rattle.rounding.proofs.Sizes.{Size, pos_minus, sub_ℕ_le}
use Rattle.sheet_check.specs.Check.{check_of}
use Rattle.tables.specs.Figures.{central_meridian_of, h_at, a_at, b_at}
use Rattle.tables.proofs.Ranges.{central_size}
use Rattle.extent.specs.Extent.{from_first, latitude_known, l_of, longitude_known, size_known, easting_known, reduced_known}
use Rattle.extent.proofs.Reach.{latitude-within, longitude-within, easting-within, size_reach, longitude_span}
use Rattle.forward.specs.Forward.{x_size}
use Rattle.inverse.specs.Inverse.{distance_of, approximate_of, size_of, longitude_of}
use Rattle.forward.proofs.Eastings.{x_not_negative}
use Rattle.inverse.proofs.Longitudes.{l_not_negative}
use Rattle.inverse.proofs.Distances.{distance_within}

-- the nearest to a number that is not negative is not negative, nor is a multiple
nearest-non_neg : (z : ℤ) (d : ℕ) → T (non_neg z) → T (non_neg (nearest z d))
unfolding nearest with_sign
nearest-non_neg (pos n) d h = tt
nearest-non_neg (negsuc n) d h = absurd h

times_non_neg : (z : ℤ) (n : ℕ) → T (non_neg z) → T (non_neg (z *ℤ pos n))
times_non_neg (pos m) n h = tt
times_non_neg (negsuc m) n h = absurd h

-- a longitude that is a size less or more than the central meridian
by_sign : {k : ℕ} (c l xp : ℤ) → Size 6_000_000 c 642_000_000 → Size 0 l k → k ≤ 6_000_000 → Size 0 (c -ℤ with_sign xp l) 648_000_000
unfolding with_sign
by_sign c l (pos x) p q h =
    let e : c -ℤ l ≡ pos (nat_abs c - nat_abs l) = rw (p.is, q.is) (pos_minus (nat_abs c) (nat_abs l) ∙ sub_ℕ_le (omega (arith, p.low, q.high))) in
    rw e (record { is = refl; low = omega arith; high = omega (arith, p.high) })
by_sign c l (negsuc x) p q h =
    let e : c -ℤ neg_ℤ l ≡ pos (nat_abs c + nat_abs l) = rw (p.is, q.is, neg_ℤ-neg_ℤ) in
    rw e (record { is = refl; low = omega arith; high = omega (arith, p.high, q.high) })

module _ (s : List ℕ) (passes : (check_of s).number ≡ 0) where
  -- ---- geographic to plane: H·s + a·b, in 10⁻⁹ ft, and the size of x'
  module _ (north west : ℤ) (known : latitude_known s north ≡ true) (there : longitude_known s west ≡ true) where
    pub sum_of_x : let t = nat_abs (from_first s north) in let size = nat_abs (l_of s west) in T (non_neg (pos (h_at s t * size) +ℤ a_at s t *ℤ b_at s size *ℤ pos 1_000))
    sum_of_x = x_not_negative s passes (nat_abs (from_first s north)) (latitude-within s passes north known) (nat_abs (l_of s west)) (longitude-within s west there)

    pub size_of_x_lem : T (non_neg (x_size s (nat_abs (from_first s north)) (nat_abs (l_of s west))))
    unfolding x_size size_of_x
    size_of_x_lem = nearest-non_neg _ 10_000_000 sum_of_x

  -- ---- plane to geographic: |x'| − a·b, in 10⁻⁶ ft, and the size of L
  module _ (xp reduced : ℤ) (easting : easting_known s xp ≡ true) (northing : reduced_known s reduced ≡ true) where
    abbrev t : ℕ
    t = distance_of s reduced

    abbrev approximate : ℕ
    approximate = approximate_of s (nat_abs xp) t

    module _ (there : size_known s (pos approximate) ≡ true) where
      pub difference_of_l : T (non_neg (pos (nat_abs xp * 10_000) -ℤ a_at s t *ℤ b_at s approximate))
      difference_of_l = l_not_negative s passes (nat_abs xp) t (easting-within s xp easting) (distance_within s passes reduced northing) there

      pub size_of_l_lem : T (non_neg (size_of s (nat_abs xp) t))
      unfolding size_of size_of_l
      size_of_l_lem =
          let left = pos (nat_abs xp * 10_000) -ℤ a_at s t *ℤ b_at s approximate in
          nearest-non_neg (left *ℤ pos 1_000) (h_at s t) (times_non_neg left 1_000 difference_of_l)

  -- ---- the longitude
  pub longitude_there : (xp : ℤ) (t : ℕ) → size_known s (size_of s (nat_abs xp) t) ≡ true → Size 0 (longitude_of s xp t) 648_000_000
  unfolding longitude_of
  longitude_there xp t known = by_sign (central_meridian_of s) (size_of s (nat_abs xp) t) xp (central_size s passes) (size_reach s (size_of s (nat_abs xp) t) known) (longitude_span s passes)
