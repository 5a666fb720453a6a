-- Two sheets that pass and differ in the figures of latitude row r alone answer a point alike where it lies outside the two intervals beside that row. Assumes nothing.
use mathlib.Core.Path.{◌≡◌, refl, sym, ap, ◌∙◌}
use mathlib.Core.Bool.{Bool, true, false, ◌||◌}
use mathlib.Core.List.{List}
use mathlib.Core.Logic.{◌⊎◌, inl, inr}
use Prim.Native.Nat.{ℕ, ◌+◌, ◌-◌, ◌*◌, ◌<◌, ◌≤◌}
use native.Mathlib.Decide.{ℕ_discrete, dec_lt}
use native.Mathlib.Omega.{arith}
use lib.IntN.{ℤ, pos, nat_abs, ◌-ℤ◌, +ℤ_invr}
use lib.Signed.{le_z}
use Rattle.rounding.specs.Nearest.{nearest_size, on_half_size}
use Rattle.steps.specs.Steps.{seconds, seconds_half}
use Rattle.rounding.proofs.Order.{le_z_equal}
use Rattle.rounding.proofs.Rounding.{nearest_size-most}
use Rattle.rounding.proofs.Halves.{multiple_no_half}
use Rattle.refusals.specs.Ladder.{need, where_below}
use Rattle.refusals.proofs.Ladders.{where_below_lem, where_beyond}
use Rattle.entries.specs.Layout.{latitude, one_minute}
use Rattle.entries.specs.Entries.{rows_of}
use Rattle.sheet_check.specs.Check.{check_of}
use Rattle.row_search.specs.Rows.{Rising}
use Rattle.tables.specs.Figures.{y0_of}
use Rattle.tables.proofs.Ranges.{y0_rising}
use Rattle.extent.specs.Extent.{from_first, latitude_known, l_of, longitude_known, x_prime, easting_known, northing_known, reduced_known}
use Rattle.extent.proofs.Reach.{reduced_reach}
use Rattle.forward.specs.Forward.{x_size, x_of, x_half, y_of, y_half, plane_at, plane_from, forward_of}
use Rattle.inverse.specs.Inverse.{reduced_northing, reduced_half, row_of, seconds_past, seconds_past_half, distance_of, distance_half, approximate_of, size_of, size_half, longitude_of, geographic_at, from_distance, from_reduced, inverse_of}
use Rattle.convergence.specs.Grid.{convergence_at, grid_half, grid_at, grid_of}
use Rattle.inverse.proofs.Distances.{row-not_above, past_gap}
use Rattle.corrected.proofs.Stands.{Aside, stands, stands_last, one-row, row_before, row-after}
use Rattle.corrected.proofs.Beside.{Beside, Outside, latitude_rows, central_same, false_same, b_same, c_same, p_same, m_same, d_same, k_same, first_same, from_first_same, latitude-same, l_same, size_same, longitude-same, x_prime_same, easting-same, scale_same, northing-same, y0_row-same, y0_same, h_same, v_same, a_same, b_half-same, c_half-same, p_half-same, m_half-same, d_half-same, k_half-same, y0_half-same, h_half-same, v_half-same, a_half-same}

-- 0 is no half
no_half-zero : (n d : ℕ) → n ≡ 0 → 0 < d → on_half_size n d ≡ false
no_half-zero n d e h =
    let same : n ≡ 0 * d = omega arith in
    ap (λ (m : ℕ). on_half_size m d) same ∙ multiple_no_half 0 d h

-- a refusal that comes first in both, or what comes after it in both
pub same_rung : {A : Type 0} (p : Bool) (x a b : A) → (p ≡ true → a ≡ b) → need p x a ≡ need p x b
unfolding need
same_rung true x a b h = h refl
same_rung false x a b h = refl

module _ (s t : List ℕ) (r : ℕ) (same : Beside s t r) where
  -- ---- geographic to plane, at a latitude's distance d from row 0
  module _ (d : ℕ) (outside : Outside r d) where
    x_same : (l : ℤ) → x_of t d l ≡ x_of s d l
    unfolding x_of x_size
    x_same l = rw (h_same s t r same d outside, a_same s t r same d outside, b_same s t r same (nat_abs l), false_same s t r same)

    y_same : (size : ℕ) → y_of t d size ≡ y_of s d size
    unfolding y_of
    y_same size = rw (y0_same s t r same d outside, v_same s t r same d outside, c_same s t r same size)

    x_half-same : (size : ℕ) → x_half t d size ≡ x_half s d size
    unfolding x_half
    x_half-same size =
        rw (h_half-same s t r same d outside, a_half-same s t r same d outside, b_half-same s t r same size, h_same s t r same d outside, a_same s t r same d outside, b_same s t r same size)

    y_half-same : (size : ℕ) → y_half t d size ≡ y_half s d size
    unfolding y_half
    y_half-same size =
        rw (y0_half-same s t r same d outside, v_half-same s t r same d outside, c_half-same s t r same size, v_same s t r same d outside, c_same s t r same size)

    plane-same : (l : ℤ) → plane_from t d l ≡ plane_from s d l
    unfolding plane_from
    plane-same l = rw (x_same l, y_same (nat_abs l), x_half-same (nat_abs l), y_half-same (nat_abs l))

  pub forward-same : (north west : ℤ) → (latitude_known s north ≡ true → longitude_known s west ≡ true → Outside r (nat_abs (from_first s north))) → forward_of t north west ≡ forward_of s north west
  unfolding forward_of plane_at
  forward-same north west outside =
      rw (latitude-same s t r same north, longitude-same s t r same west)
      (same_rung (latitude_known s north) _ _ _ (λ k.
      same_rung (longitude_known s west) _ _ _ (λ l.
      rw (from_first_same s t r same north, l_same s t r same west, plane-same (nat_abs (from_first s north)) (outside k l) (l_of s west)))))

  -- ---- convergence and scale
  pub grid-same : (x y : ℤ) → grid_of t x y ≡ grid_of s x y
  unfolding grid_of grid_at convergence_at grid_half
  grid-same x y =
      rw (
        x_prime_same s t r same x,
        scale_same s t r same (x_prime s x),
        northing-same s t r same y,
        m_same s t r same (nat_abs y),
        k_same s t r same (nat_abs (x_prime s x)),
        m_half-same s t r same (nat_abs y),
        k_half-same s t r same (nat_abs (x_prime s x)),
      )

  -- ---- plane to geographic, from a latitude's distance d from row 0
  module _ (d : ℕ) (outside : Outside r d) where
    approximate_same : (x : ℕ) → approximate_of t x d ≡ approximate_of s x d
    unfolding approximate_of
    approximate_same x = rw (h_same s t r same d outside)

    size_of_same : (x : ℕ) → size_of t x d ≡ size_of s x d
    unfolding size_of
    size_of_same x =
        rw (approximate_same x, h_same s t r same d outside, a_same s t r same d outside, b_same s t r same (approximate_of s x d))

    size_half-same : (x : ℕ) → size_half t x d ≡ size_half s x d
    unfolding size_half
    size_half-same x =
        rw (
          approximate_same x,
          h_half-same s t r same d outside,
          a_half-same s t r same d outside,
          b_half-same s t r same (approximate_of s x d),
          h_same s t r same d outside,
          a_same s t r same d outside,
          b_same s t r same (approximate_of s x d),
        )

    longitude_of_same : (xp : ℤ) → longitude_of t xp d ≡ longitude_of s xp d
    unfolding longitude_of
    longitude_of_same xp = rw (size_of_same (nat_abs xp), central_same s t r same)

    pub from_distance_same : (xp : ℤ) (met : Bool) → from_distance t xp d met ≡ from_distance s xp d met
    unfolding from_distance geographic_at
    from_distance_same xp met =
        rw (
          approximate_same (nat_abs xp),
          size_of_same (nat_abs xp),
          size_same s t r same (pos (approximate_of s (nat_abs xp) d)),
          size_same s t r same (size_of s (nat_abs xp) d),
          first_same s t r same,
          longitude_of_same xp,
          size_half-same (nat_abs xp),
        )

  pub reduced_same : (x : ℕ) (y : ℤ) → reduced_northing t x y ≡ reduced_northing s x y
  unfolding reduced_northing
  reduced_same x y = rw (p_same s t r same (nat_abs y), d_same s t r same x)

  pub reduced_half-same : (x : ℕ) (y : ℤ) → reduced_half t x y ≡ reduced_half s x y
  unfolding reduced_half
  reduced_half-same x y =
      rw (p_half-same s t r same (nat_abs y), d_half-same s t r same x, p_same s t r same (nat_abs y), d_same s t r same x)

-- ---- the seconds past a row, on a sheet that passes
module _ (s : List ℕ) (ok : (check_of s).number ≡ 0) (z : ℤ) (known : reduced_known s z ≡ true) where
  abbrev row : ℕ
  row = row_of s z

  abbrev n : ℕ
  n = rows_of s latitude

  abbrev past : ℕ
  past = nat_abs (z -ℤ y0_of s row)

  abbrev gap : ℕ
  gap = nat_abs (y0_of s (row + 1) -ℤ y0_of s row)

  -- at most what k is of the whole, where that much of the gap is past
  seconds-most : (k : ℕ) → (row + 1 < n → one_minute * past ≤ k * gap) → seconds_past s z row ≤ k
  unfolding seconds_past seconds
  seconds-most k h = pick (dec_lt (row + 1) n)
    where
      pick : Dec (row + 1 < n) → where_below (row + 1) n (nearest_size (one_minute * past) gap) 0 ≤ k
      pick (yes l) =
          rw (where_below_lem (row + 1) n (nearest_size (one_minute * past) gap) 0 l)
          (nearest_size-most (one_minute * past) gap k (omega (arith, past_gap s ok z known l)) (h l))
      pick (no l) = rw (where_beyond (row + 1) n (nearest_size (one_minute * past) gap) 0 (omega arith)) (omega arith)

  -- never more than a minute
  minute_most : seconds_past s z row ≤ one_minute
  minute_most = seconds-most one_minute (λ l. omega (arith, past_gap s ok z known l))

  -- and none at the row itself
  none-past : z ≡ y0_of s row → seconds_past s z row ≡ 0
  none-past e =
      let zero-past : past ≡ 0 = ap nat_abs (ap (λ (x : ℤ). x -ℤ y0_of s row) e ∙ +ℤ_invr (y0_of s row)) in
      omega (arith, seconds-most 0 (λ l. rw zero-past (omega arith)))

module _ (s : List ℕ) (ok : (check_of s).number ≡ 0) (z : ℤ) (known : reduced_known s z ≡ true) where
  -- nor a half at the row itself
  no_half-past : z ≡ y0_of s (row_of s z) → seconds_past_half s z (row_of s z) ≡ false
  unfolding seconds_past_half seconds_half
  no_half-past e = pick (dec_lt (row_of s z + 1) (rows_of s latitude))
    where
      zero-past : nat_abs (z -ℤ y0_of s (row_of s z)) ≡ 0
      zero-past = ap nat_abs (ap (λ (x : ℤ). x -ℤ y0_of s (row_of s z)) e ∙ +ℤ_invr (y0_of s (row_of s z)))

      pick : Dec (row_of s z + 1 < rows_of s latitude)
          → where_below (row_of s z + 1) (rows_of s latitude) (on_half_size (one_minute * nat_abs (z -ℤ y0_of s (row_of s z))) (nat_abs (y0_of s (row_of s z + 1) -ℤ y0_of s (row_of s z)))) false ≡ false
      pick (yes l) =
          where_below_lem (row_of s z + 1) (rows_of s latitude) _ false l
          ∙ no_half-zero (one_minute * nat_abs (z -ℤ y0_of s (row_of s z))) (nat_abs (y0_of s (row_of s z + 1) -ℤ y0_of s (row_of s z))) (omega (arith, zero-past)) (omega (arith, past_gap s ok z known l))
      pick (no l) = where_beyond (row_of s z + 1) (rows_of s latitude) _ false (omega arith)

module _ (s t : List ℕ) (r : ℕ) (same : Beside s t r) (there : r < rows_of s latitude) (ok : (check_of s).number ≡ 0) (ok' : (check_of t).number ≡ 0) where
  abbrev rows : ℕ
  rows = rows_of s latitude

  up : Rising (y0_of s) rows
  up = y0_rising s ok

  up' : Rising (y0_of t) rows
  up' = rw (latitude_rows s t r same) at (y0_rising t ok')

  module _ (z : ℤ) (aside : Aside (y0_of s) rows r z) where
    first_test : le_z (y0_of t 0) z ≡ le_z (y0_of s 0) z
    first_test = stands (y0_of s) (y0_of t) rows r there up up' (y0_row-same s t r same) z aside 0

    last_test : le_z z (y0_of t (rows - 1)) ≡ le_z z (y0_of s (rows - 1))
    last_test = stands_last (y0_of s) (y0_of t) rows r there up up' (y0_row-same s t r same) z aside

    known_same : reduced_known t z ≡ reduced_known s z
    unfolding reduced_known
    known_same = rw (latitude_rows s t r same, first_test, last_test)

    row_same : row_of t z ≡ row_of s z
    unfolding row_of
    row_same = rw (latitude_rows s t r same) (one-row (y0_of s) (y0_of t) rows r there up up' (y0_row-same s t r same) z aside)

    -- the seconds past a row that does not reach row r
    apart_same : (i : ℕ) → (i ≡ r → ⊥) → (i + 1 ≡ r → ⊥) → seconds_past t z i ≡ seconds_past s z i
    unfolding seconds_past
    apart_same i p q = rw (latitude_rows s t r same, y0_row-same s t r same i p, y0_row-same s t r same (i + 1) q)

    module _ (known : reduced_known s z ≡ true) where
      first : le_z (y0_of s 0) z ≡ true
      first = (reduced_reach s z known).0

      known' : reduced_known t z ≡ true
      known' = known_same ∙ known

      at_row : le_z (y0_of s (row_of s z)) z ≡ true
      at_row = row-not_above s ok z known

      -- its row lies on z's side of row r
      below : (0 < r) × (le_z z (y0_of s (r - 1)) ≡ true) → row_of s z < r
      unfolding row_of
      below low = row_before (y0_of s) (y0_of t) rows r there up up' (y0_row-same s t r same) z low first

      above : (r + 1 < rows) × (le_z (y0_of s (r + 1)) z ≡ true) → r + 1 ≤ row_of s z
      unfolding row_of
      above high = row-after (y0_of s) (y0_of t) rows r there up up' (y0_row-same s t r same) z high

      -- where z is row r − 1's figure itself
      touching : row_of s z + 1 ≡ r → le_z z (y0_of s (r - 1)) ≡ true → (seconds_past t z (row_of s z) ≡ 0) × (seconds_past s z (row_of s z) ≡ 0)
      touching e low =
          let at : r - 1 ≡ row_of s z = omega arith in
          let is : z ≡ y0_of s (row_of s z) = le_z_equal z (y0_of s (row_of s z)) (rw at at low) at_row in
          let is' : z ≡ y0_of t (row_of t z) = rw (row_same, y0_row-same s t r same (row_of s z) (λ q. omega arith)) is in
          (rw row_same at (none-past t ok' z known' is'), none-past s ok z known is)

      seconds-same : seconds_past t z (row_of s z) ≡ seconds_past s z (row_of s z)
      seconds-same = by_side aside
        where
          by_side : Aside (y0_of s) rows r z → seconds_past t z (row_of s z) ≡ seconds_past s z (row_of s z)
          by_side (inl low) = pick (ℕ_discrete (row_of s z + 1) r)
            where
              pick : Dec (row_of s z + 1 ≡ r) → seconds_past t z (row_of s z) ≡ seconds_past s z (row_of s z)
              pick (yes e) = let none = touching e low.1 in none.0 ∙ sym none.1
              pick (no p) = apart_same (row_of s z) (λ q. omega (arith, below low)) p
          by_side (inr high) = apart_same (row_of s z) (λ q. omega (arith, above high)) (λ q. omega (arith, above high))

      half_apart : (i : ℕ) → (i ≡ r → ⊥) → (i + 1 ≡ r → ⊥) → seconds_past_half t z i ≡ seconds_past_half s z i
      unfolding seconds_past_half
      half_apart i p q = rw (latitude_rows s t r same, y0_row-same s t r same i p, y0_row-same s t r same (i + 1) q)

      seconds-half-same : seconds_past_half t z (row_of s z) ≡ seconds_past_half s z (row_of s z)
      seconds-half-same = by_side aside
        where
          by_side : Aside (y0_of s) rows r z → seconds_past_half t z (row_of s z) ≡ seconds_past_half s z (row_of s z)
          by_side (inl low) = pick (ℕ_discrete (row_of s z + 1) r)
            where
              pick : Dec (row_of s z + 1 ≡ r) → seconds_past_half t z (row_of s z) ≡ seconds_past_half s z (row_of s z)
              pick (yes e) =
                  let at : r - 1 ≡ row_of s z = omega arith in
                  let is : z ≡ y0_of s (row_of s z) = le_z_equal z (y0_of s (row_of s z)) (rw at at low.1) at_row in
                  let is' : z ≡ y0_of t (row_of t z) = rw (row_same, y0_row-same s t r same (row_of s z) (λ q. omega arith)) is in
                  (rw row_same at (no_half-past t ok' z known' is')) ∙ sym (no_half-past s ok z known is)
              pick (no p) = half_apart (row_of s z) (λ q. omega (arith, below low)) p
          by_side (inr high) = half_apart (row_of s z) (λ q. omega (arith, above high)) (λ q. omega (arith, above high))

      outside : Outside r (distance_of s z)
      unfolding distance_of
      outside = by_side aside
        where
          by_side : Aside (y0_of s) rows r z → Outside r (row_of s z * one_minute + seconds_past s z (row_of s z))
          by_side (inl low) = inl (low.0, pick (ℕ_discrete (row_of s z + 1) r))
            where
              pick : Dec (row_of s z + 1 ≡ r) → row_of s z * one_minute + seconds_past s z (row_of s z) ≤ (r - 1) * one_minute
              pick (yes e) = omega (arith, (touching e low.1).1)
              pick (no p) = omega (arith, below low, minute_most s ok z known)
          by_side (inr high) = inr (omega (arith, above high))

    from_reduced_same : (xp : ℤ) (met : Bool) → from_reduced t xp z met ≡ from_reduced s xp z met
    unfolding from_reduced distance_of distance_half
    from_reduced_same xp met =
        rw known_same (same_rung (reduced_known s z) _ _ _ (λ known.
        rw (row_same, seconds-same known, seconds-half-same known) (from_distance_same s t r same (distance_of s z) (outside known) xp (met || distance_half s z))))

  -- the reduced northing lies aside, or 14 refuses it on both sheets
  abbrev pub Apart : ℤ → Type 0
  Apart z = Aside (y0_of s) rows r z ⊎ ((reduced_known s z ≡ false) × (reduced_known t z ≡ false))

  apart_answers : (xp z : ℤ) (met : Bool) → Apart z → from_reduced t xp z met ≡ from_reduced s xp z met
  unfolding from_reduced need
  apart_answers xp z met (inl aside) = from_reduced_same z aside xp met
  apart_answers xp z met (inr refused) = rw (refused.0, refused.1)

  pub inverse-same : (x y : ℤ)
      → (easting_known s (x_prime s x) ≡ true → northing_known s y ≡ true → Apart (reduced_northing s (nat_abs (x_prime s x)) y))
      → inverse_of t x y ≡ inverse_of s x y
  unfolding inverse_of
  inverse-same x y apart =
      rw (x_prime_same s t r same x, easting-same s t r same (x_prime s x), northing-same s t r same y)
      (same_rung (easting_known s (x_prime s x)) _ _ _ (λ k.
      same_rung (northing_known s y) _ _ _ (λ l.
      rw (reduced_same s t r same (nat_abs (x_prime s x)) y, reduced_half-same s t r same (nat_abs (x_prime s x)) y)
      (apart_answers (x_prime s x) (reduced_northing s (nat_abs (x_prime s x)) y) (reduced_half s (nat_abs (x_prime s x)) y) (apart k l)))))
