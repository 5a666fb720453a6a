-- Plane to geographic on a sheet that passes: the row of a reduced northing within the y0, the seconds past it, and the latitude's distance from row 0. Assumes nothing.
use mathlib.Core.Path.{◌≡◌, refl, sym, ap, ◌∙◌, subst}
use mathlib.Core.Bool.{Bool, true, false}
use mathlib.Core.List.{List}
use Prim.Native.Nat.{ℕ, ◌+◌, ◌*◌, ◌-◌, ◌<◌, ◌≤◌, min}
use native.Mathlib.Nat.{le_trans, le_of_lt}
use native.Mathlib.Decide.{dec_lt}
use native.Mathlib.Omega.{arith}
use borrow.Author.Tests.{leb-true, ltb-true, le-leb}
use lib.Dec.{T, lit≤}
use lib.IntN.{ℤ, pos, negsuc, nat_abs, ◌-ℤ◌}
use lib.Signed.{le_z, lt_z, non_neg}
use mir.Syntax.{w64}
use mir.Val.{Fits}
use Rattle.rounding.specs.Ranges.{most_gap}
use Rattle.steps.specs.Steps.{seconds, seconds_half}
use Rattle.rounding.proofs.Sizes.{Size, pos_minus, sub_ℕ_le}
use Rattle.rounding.proofs.Rounding.{nearest_size_multiple, nearest_size-most}
use Rattle.rounding.proofs.Halves.{multiple_no_half}
use Rattle.refusals.specs.Ladder.{where_below}
use Rattle.refusals.proofs.Ladders.{where_below_lem, where_beyond}
use Rattle.rules.specs.Latitude.{least_rise}
use Rattle.entries.specs.Layout.{latitude, one_minute}
use Rattle.entries.specs.Entries.{rows_of, Within}
use Rattle.sheet_check.specs.Check.{check_of}
use Rattle.row_search.specs.Rows.{RisesBy}
use Rattle.row_search.proofs.LastRow.{last_below, last-not_above, later_above}
use Rattle.tables.specs.Figures.{y0_of}
use Rattle.tables.proofs.Ranges.{latitude-some, latitude-two, within_minutes, y0_size, y0_rises}
use Rattle.extent.specs.Extent.{reduced_known}
use Rattle.extent.proofs.Reach.{latitude_count, reduced_reach}
use Rattle.inverse.specs.Inverse.{row_of, seconds_past, seconds_past_half, distance_of, distance_half, seconds_by, seconds_by_half}

-- ---- the order of sizes, and their difference
above_size : (a b : ℤ) → a ≡ pos (nat_abs a) → le_z a b ≡ true → (b ≡ pos (nat_abs b)) × (nat_abs a ≤ nat_abs b)
above_size (pos a) (pos b) e h = (refl, leb-true a b h)
above_size (pos a) (negsuc b) e h = absurd (subst T (sym h) tt)
above_size (negsuc a) b e h = absurd (subst T (sym (ap non_neg e)) tt)

below_size : (a b : ℤ) → a ≡ pos (nat_abs a) → b ≡ pos (nat_abs b) → lt_z a b ≡ true → nat_abs a < nat_abs b
below_size (pos a) (pos b) e f h = ltb-true a b h
below_size (pos a) (negsuc b) e f h = absurd (subst T (sym (ap non_neg f)) tt)
below_size (negsuc a) b e f h = absurd (subst T (sym (ap non_neg e)) tt)

difference_of : (a b : ℤ) → a ≡ pos (nat_abs a) → b ≡ pos (nat_abs b) → nat_abs a ≤ nat_abs b → nat_abs (b -ℤ a) ≡ nat_abs b - nat_abs a
difference_of a b e f h =
    ap nat_abs (ap (λ (z : ℤ). z -ℤ a) f ∙ ap (λ (z : ℤ). pos (nat_abs b) -ℤ z) e ∙ pos_minus (nat_abs b) (nat_abs a) ∙ sub_ℕ_le h)

-- ---- the whole gap takes the whole span
whole-seconds : (span gap : ℕ) → 0 < gap → seconds span gap gap ≡ span
unfolding seconds
whole-seconds span gap h = nearest_size_multiple span gap h

whole_no_half : (span gap : ℕ) → 0 < gap → seconds_half span gap gap ≡ false
unfolding seconds_half
whole_no_half span gap h = multiple_no_half span gap h

-- ---- a reduced northing z within the y0
module _ (s : List ℕ) (ok : (check_of s).number ≡ 0) (z : ℤ) (known : reduced_known s z ≡ true) where
  abbrev n : ℕ
  n = rows_of s latitude

  -- the seconds past a row, and their mark
  abbrev past : ℕ → ℕ
  past row = nat_abs (z -ℤ y0_of s row)

  abbrev gap : ℕ → ℕ
  gap row = nat_abs (y0_of s (row + 1) -ℤ y0_of s row)

  abbrev seconds_at : ℕ → ℕ
  seconds_at row = seconds one_minute (past row) (gap row)

  abbrev half_at : ℕ → Bool
  half_at row = seconds_half one_minute (past row) (gap row)

  pub row_there : row_of s z < n
  unfolding row_of
  row_there = last_below (y0_of s) z n (latitude-some s ok)

  row_y0 : Size 0 (y0_of s (row_of s z)) 999_999_999
  row_y0 = y0_size s ok (row_of s z) row_there

  -- its row's y0 is not above it
  pub row-not_above : le_z (y0_of s (row_of s z)) z ≡ true
  unfolding row_of
  row-not_above = last-not_above (y0_of s) z n (reduced_reach s z known).0

  z_size : (z ≡ pos (nat_abs z)) × (nat_abs (y0_of s (row_of s z)) ≤ nat_abs z)
  z_size = above_size (y0_of s (row_of s z)) z row_y0.is row-not_above

  below_last : nat_abs z ≤ nat_abs (y0_of s (n - 1))
  below_last = (above_size z (y0_of s (n - 1)) z_size.0 (reduced_reach s z known).1).1

  pub z_most : nat_abs z ≤ most_gap
  z_most = omega (arith, below_last, (y0_size s ok (n - 1) (omega (arith, latitude-some s ok))).high)

  -- the next row's y0 is above it
  next_above : row_of s z + 1 < n → nat_abs z < nat_abs (y0_of s (row_of s z + 1))
  unfolding row_of
  next_above next = below_size z (y0_of s (row_of s z + 1)) z_size.0 (y0_size s ok (row_of s z + 1) next).is (later_above (y0_of s) z n (row_of s z + 1) next (omega arith))

  -- ---- row is its row, or the one before where its row is the last: there is a next
  module _ (row : ℕ) (e : row ≡ min (row_of s z) (n - 2)) where
    pub next_there : row + 1 < n
    next_there = omega (arith, latitude-two s ok)

    its_row : row_of s z + 1 < n → row ≡ row_of s z
    its_row next = omega arith

    row-after : n ≤ row_of s z + 1 → row + 1 ≡ row_of s z
    row-after last = omega (arith, row_there, latitude-two s ok)

    -- its y0 and the next row's, from one of which to the other the reduced northing lies: at the last row, it is the next one's
    this_y0 : Size 0 (y0_of s row) 999_999_999
    this_y0 = y0_size s ok row (omega (arith, next_there))

    after_y0 : Size 0 (y0_of s (row + 1)) 999_999_999
    after_y0 = y0_size s ok (row + 1) next_there

    rises : nat_abs (y0_of s row) + least_rise ≤ nat_abs (y0_of s (row + 1))
    unfolding RisesBy
    rises = leb-true _ _ (rw (this_y0.is, after_y0.is) at (y0_rises s ok row next_there).0)

    at_last : n ≤ row_of s z + 1 → nat_abs z ≡ nat_abs (y0_of s (row + 1))
    at_last last =
        let end : n - 1 ≡ row + 1 = omega (arith, row-after last, row_there) in
        omega (arith, rw end at below_last, rw (← row-after last) at z_size.1)

    not_above : nat_abs (y0_of s row) ≤ nat_abs z
    not_above = pick (dec_lt (row_of s z + 1) n)
      where
        pick : Dec (row_of s z + 1 < n) → nat_abs (y0_of s row) ≤ nat_abs z
        pick (yes h) = rw (its_row h) z_size.1
        pick (no h) = omega (arith, rises, at_last (omega arith))

    not_below : nat_abs z ≤ nat_abs (y0_of s (row + 1))
    not_below = pick (dec_lt (row_of s z + 1) n)
      where
        pick : Dec (row_of s z + 1 < n) → nat_abs z ≤ nat_abs (y0_of s (row + 1))
        pick (yes h) = rw (its_row h) (le_of_lt (next_above h))
        pick (no h) = omega (arith, at_last (omega arith))

    -- what of it lies past the row is at most the gap to the next
    past_is : past row ≡ nat_abs z - nat_abs (y0_of s row)
    past_is = difference_of (y0_of s row) z this_y0.is z_size.0 not_above

    gap_is : gap row ≡ nat_abs (y0_of s (row + 1)) - nat_abs (y0_of s row)
    gap_is = difference_of (y0_of s row) (y0_of s (row + 1)) this_y0.is after_y0.is (omega (arith, rises))

    past-most : past row ≤ gap row
    past-most = omega (arith, past_is, gap_is, not_below)

    gap_some : 0 < gap row
    gap_some = omega (arith, gap_is, rises)

    gap_most : gap row ≤ most_gap
    gap_most = omega (arith, gap_is, after_y0.high)

    -- and the seconds at most the step, which they are at the last row
    seconds-most : seconds_at row ≤ one_minute
    unfolding seconds
    seconds-most = nearest_size-most _ _ one_minute gap_some (omega (arith, past-most))

    module _ (last : n ≤ row_of s z + 1) where
      whole_gap : past row ≡ gap row
      whole_gap = omega (arith, past_is, gap_is, at_last last)

      whole-step : seconds_at row ≡ one_minute
      whole-step = rw whole_gap (whole-seconds one_minute (gap row) gap_some)

      no_half : half_at row ≡ false
      no_half = rw whole_gap (whole_no_half one_minute (gap row) gap_some)

    pub distance_is : row * one_minute + seconds_at row ≡ distance_of s z
    unfolding distance_of seconds_past
    distance_is = pick (dec_lt (row_of s z + 1) n)
      where
        pick : Dec (row_of s z + 1 < n) → row * one_minute + seconds_at row ≡ row_of s z * one_minute + where_below (row_of s z + 1) n (seconds_at (row_of s z)) 0
        pick (yes h) = rw (its_row h, where_below_lem (row_of s z + 1) n (seconds_at (row_of s z)) 0 h)
        pick (no h) = omega (arith, whole-step (omega arith), row-after (omega arith), where_beyond (row_of s z + 1) n (seconds_at (row_of s z)) 0 (omega arith))

    half_is : half_at row ≡ distance_half s z
    unfolding distance_half seconds_past_half
    half_is = pick (dec_lt (row_of s z + 1) n)
      where
        pick : Dec (row_of s z + 1 < n) → half_at row ≡ where_below (row_of s z + 1) n (half_at (row_of s z)) false
        pick (yes h) = rw (its_row h, where_below_lem (row_of s z + 1) n (half_at (row_of s z)) false h)
        pick (no h) = no_half (omega arith) ∙ sym (where_beyond (row_of s z + 1) n (half_at (row_of s z)) false (omega arith))

    -- ---- as the code has them: a number with ' has the bits of the one without
    pub row_below : row < n
    row_below = omega (arith, next_there)

    pub next_fits : Fits w64 (row + 1)
    next_fits = record { fits = omega (arith, next_there, latitude_count s ok) }

    -- u, w and z' have the bits of the row's y0, of the next row's and of z
    module _ (u w z' : ℤ) (k : u ≡ y0_of s row) (m : w ≡ y0_of s (row + 1)) (same : z' ≡ z) where
      pub seconds_ask : (nat_abs u ≤ most_gap) × (nat_abs w ≤ most_gap) × (nat_abs z' ≤ most_gap) × (le_z u z' ≡ true) × (le_z u w ≡ true) × (0 < nat_abs (w -ℤ u)) × (nat_abs (z' -ℤ u) ≤ nat_abs (w -ℤ u)) × (nat_abs (w -ℤ u) ≤ most_gap)
      seconds_ask =
          rw (k, m, same) (
            le_trans this_y0.high (lit≤ tt),
            le_trans after_y0.high (lit≤ tt),
            z_most,
            rw (this_y0.is, z_size.0) (le-leb (nat_abs (y0_of s row)) (nat_abs z) not_above),
            rw (this_y0.is, after_y0.is) (le-leb (nat_abs (y0_of s row)) (nat_abs (y0_of s (row + 1))) (omega (arith, rises))),
            gap_some,
            past-most,
            gap_most,
          )

      pub seconds_are : (r : ℕ) (half : Bool) → r ≡ seconds_by u w z' → half ≡ seconds_by_half u w z'
          → (row * one_minute + r ≡ distance_of s z) × (r ≤ one_minute) × (half ≡ distance_half s z)
      unfolding seconds_by seconds_by_half
      seconds_are r half a b =
          let its : r ≡ seconds_at row = a ∙ rw (k, m, same) in
          (rw its distance_is, rw its seconds-most, b ∙ rw (k, m, same) half_is)

  -- where it has a next row, what lies past it is less than the gap
  pub past_gap : row_of s z + 1 < n → nat_abs (z -ℤ y0_of s (row_of s z)) < nat_abs (y0_of s (row_of s z + 1) -ℤ y0_of s (row_of s z))
  past_gap next =
      let its : row_of s z ≡ min (row_of s z) (n - 2) = omega arith in
      omega (arith, past_is (row_of s z) its, gap_is (row_of s z) its, not_above (row_of s z) its, next_above next)

  -- the latitude lies from row 0 to the last
  pub distance_within : Within s latitude (distance_of s z)
  distance_within =
      let row = min (row_of s z) (n - 2) in
      let most : row + 1 ≤ n - 1 = omega (arith, next_there row refl) in
      rw (← distance_is row refl) (within_minutes s ok (row * one_minute + seconds_at row) (omega (arith, most, seconds-most row refl)))
