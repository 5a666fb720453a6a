-- In a sheet that passes each row's minute names it: row i's is i more than the first row's. Assumes nothing.
use mathlib.Core.Path.{◌≡◌, ap, ◌∙◌}
use mathlib.Core.Bool.{true}
use mathlib.Core.List.{List}
use Prim.Native.Nat.{ℕ, zero, suc, ◌+◌, ◌-◌, ◌<◌, zero-le}
use native.Mathlib.Omega.{arith}
use borrow.Author.Tests.{le-leb}
use lib.IntN.{ℤ, pos, nat_abs, ◌-ℤ◌}
use Rattle.rounding.proofs.Sizes.{Size, pos_minus, sub_ℕ_le}
use Rattle.entries.specs.Layout.{latitude}
use Rattle.entries.specs.Entries.{rows_of, body_of}
use Rattle.refusals.specs.Tests.{in_range}
use Rattle.refusals.proofs.Ranges.{same_self}
use Rattle.latitude_rows.specs.Rows.{row_at}
use Rattle.latitude_rows.proofs.PassingFigures.{minute_in_range, minute_up}
use Rattle.sheet_check.specs.Check.{check_of}
use Rattle.sheet_check.proofs.Sound.{passes_sound, latitude_rows}
use Rattle.minute_row.specs.MinuteRow.{from_first_minute, named_row, has_row}

module _ (s : List ℕ) (ok : (check_of s).number ≡ 0) where
  abbrev b : List ℕ
  b = body_of s latitude

  abbrev n : ℕ
  n = rows_of s latitude

  minute_size : (i : ℕ) → i < n → Size 0 (row_at b i).minute 5_400
  minute_size i h = minute_in_range b n (latitude_rows s (passes_sound s ok)) i h

  minutes_rise : (i : ℕ) → i < n → nat_abs (row_at b i).minute ≡ nat_abs (row_at b 0).minute + i
  minutes_rise zero h = omega arith
  minutes_rise (suc i) h =
      let next : suc i ≡ i + 1 = omega arith in
      rw next (omega (arith, minute_up b n (latitude_rows s (passes_sound s ok)) i (omega arith), minutes_rise i (omega arith)))

  from_first_is : (i : ℕ) → i < n → from_first_minute b (row_at b i).minute ≡ pos i
  unfolding from_first_minute
  from_first_is i h =
      let this = minute_size i h in
      let first = minute_size 0 (omega (arith, h)) in
      ap (λ (x : ℤ). x -ℤ (row_at b 0).minute) this.is
      ∙ ap (λ (x : ℤ). pos (nat_abs (row_at b i).minute) -ℤ x) first.is
      ∙ pos_minus (nat_abs (row_at b i).minute) (nat_abs (row_at b 0).minute)
      ∙ sub_ℕ_le {a = nat_abs (row_at b i).minute} {b = nat_abs (row_at b 0).minute} (omega (arith, minutes_rise i h))
      ∙ ap pos {y = i} (omega (arith, minutes_rise i h))

  pub each_named : (r : ℕ) → r < n → (has_row b n (row_at b r).minute ≡ true) × (named_row b (row_at b r).minute ≡ r)
  unfolding has_row in_range
  each_named r h =
      let at : named_row b (row_at b r).minute ≡ r = ap nat_abs (from_first_is r h) in
      (rw (from_first_is r h, le-leb 0 r zero-le, le-leb r (n - 1) (omega arith)) (same_self (row_at b r).minute), at)
