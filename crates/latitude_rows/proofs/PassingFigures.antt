-- What the figures of a latitude body whose rows have no fault are: in their ranges, y0 strictly rising, the differences as stated. Assumes nothing.
use mathlib.Core.Path.{◌≡◌}
use mathlib.Core.Bool.{true}
use mathlib.Core.List.{List}
use Prim.Native.Nat.{ℕ, zero, suc, ◌+◌, ◌<◌, ◌≤◌}
use native.Mathlib.Omega.{arith}
use lib.IntN.{pos, nat_abs}
use Rattle.rounding.proofs.Sizes.{Size}
use Rattle.refusals.specs.Tests.{in_range}
use Rattle.rules.specs.Limits.{rises}
use Rattle.rules.specs.Latitude.{figures_in_range, differences_of, no_differences}
use Rattle.rounding.proofs.Tests.{both}
use Rattle.rules.proofs.WhatPasses.{range_size, rises_sizes, InRange, figures_in_lem, Bounded, figures_bounded, differences_are}
use Rattle.latitude_rows.specs.Rows.{figures_at, differences_at, row_at, row_in_range}
use Rattle.latitude_rows.proofs.PassingRows.{LatitudeRow}

-- ---- latitude: b is the body, of n rows
module _ (b : List ℕ) (n : ℕ) (rows : (i : ℕ) → i < n → LatitudeRow b n i) where
  ranges : (i : ℕ) → i < n → (in_range (pos 0) (row_at b i).minute (pos 5_400) ≡ true) × (figures_in_range (figures_at b i) ≡ true)
  unfolding row_in_range
  ranges i h = both _ _ (rows i h).range

  pub minute_in_range : (i : ℕ) → i < n → Size 0 (row_at b i).minute 5_400
  minute_in_range i h = range_size 0 (row_at b i).minute 5_400 (ranges i h).0

  pub figures_in_range_lem : (i : ℕ) → i < n → InRange (figures_at b i)
  figures_in_range_lem i h = figures_in_lem (figures_at b i) (ranges i h).1

  -- the minute after row i's
  pub minute_up : (i : ℕ) → i + 1 < n → nat_abs (row_at b (i + 1)).minute ≡ nat_abs (row_at b i).minute + 1
  minute_up i h =
      let this = minute_in_range i (omega arith) in
      let next = minute_in_range (i + 1) h in
      let up : rises (row_at b i).minute (row_at b (i + 1)).minute (pos 1) (pos 1) ≡ true = (rows i (omega arith)).next_minute h in
      omega (arith, rises_sizes 1 1 (nat_abs (row_at b i).minute) (nat_abs (row_at b (i + 1)).minute) (rw (← this.is, ← next.is) up))

  pub figures-within : (i : ℕ) → i + 1 < n → Bounded (figures_at b i) (figures_at b (i + 1))
  figures-within i h =
      figures_bounded (figures_at b i) (figures_at b (i + 1)) (figures_in_range_lem i (omega arith)) (figures_in_range_lem (i + 1) h) ((rows i (omega arith)).bounds h)

  -- y0 of row i, in 0.01 ft
  abbrev y0 : ℕ → ℕ
  y0 i = nat_abs (figures_at b i).y0

  pub y0_up : (i : ℕ) → i + 1 < n → y0 i < y0 (i + 1)
  y0_up i h = omega (arith, (figures-within i h).y0.0)

  pub y0_rising : (i d : ℕ) → i + suc d < n → y0 i < y0 (i + suc d)
  y0_rising i zero h = y0_up i h
  y0_rising i (suc d) h =
      let l : i + suc (suc d) ≡ i + suc d + 1 = omega arith in
      rw l (omega (arith, y0_rising i d (omega arith), y0_up (i + suc d) (omega arith)))

  pub differences_stated : (i : ℕ) → i + 1 < n → differences_at b i ≡ differences_of (figures_at b i) (figures_at b (i + 1))
  differences_stated i h = differences_are _ _ ((rows i (omega arith)).stated h)

  pub last_differences : (i : ℕ) → i < n → n ≤ i + 1 → differences_at b i ≡ no_differences
  last_differences i h l = differences_are _ _ ((rows i h).last l)
