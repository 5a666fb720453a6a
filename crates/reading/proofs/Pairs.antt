-- Reading at an offset by a pair of rows: row i, the last at or before the offset that has a next, and that next. The last row of all is a whole step past the one before it.
-- Assumes nothing.
use mathlib.Core.Path.{◌≡◌, refl, sym, ap, ◌∙◌}
use mathlib.Core.Bool.{true}
use mathlib.Core.List.{List}
use Prim.Native.Nat.{ℕ, ◌+◌, ◌*◌, ◌-◌, ◌/◌, ◌%◌, ◌<◌, ◌≤◌, min}
use native.Mathlib.Nat.{mul-add, mul-one, add-mul, mul-le-mul_right, div-add-mod', div-le_self, mod-lt}
use native.Mathlib.Decide.{dec_le, dec_lt}
use native.Mathlib.Omega.{arith}
use lib.Arith.{digits_div, digits_mod}
use lib.IntN.{ℤ, pos}
use lib.ListN.{length}
use lib.Signed.{le_z}
use Rattle.rounding.specs.Nearest.{nearest, on_half}
use Rattle.rounding.specs.Between.{exact_between, between, between_half}
use Rattle.rounding.proofs.Interval.{exact_row, exact_next}
use Rattle.words.specs.Words.{word_at}
use Rattle.rounding.specs.Ranges.{most_step}
use Rattle.reading.specs.declared.At.{At}
use Rattle.reading.specs.Tables.{column, past_row, past_row_half, value_at, value_half, offset_of, Among, NotNegative}
use Rattle.reading.proofs.Within.{next-within}

-- the next row's word
pub next_word : (b : List ℕ) (w c i : ℕ) → word_at b (w * i + c + w) ≡ column b w c (i + 1)
next_word b w c i = ap (word_at b) (omega (arith, mul-add w i 1, mul-one w))

-- what is rounded at an offset: the value and its mark are worked from it
abbrev pub exact_at : (ℕ → ℤ) → ℕ → ℕ → ℤ
exact_at f step offset = exact_between (f (offset / step)) (f (offset / step + 1)) (offset % step) step

-- ---- so much past row i, up to a step: a whole step past it is the next row
module _ (f : ℕ → ℤ) (i past step : ℕ) (p : 0 < step) (most : past ≤ step) where
  next_row : step ≤ past → i * step + past ≡ (i + 1) * step + 0
  next_row whole = omega (arith, add-mul i 1 step)

  exact_past : exact_between (f i) (f (i + 1)) past step ≡ exact_at f step (i * step + past)
  exact_past = pick (dec_lt past step)
    where
      pick : Dec (past < step)
          → exact_between (f i) (f (i + 1)) past step ≡ exact_between (f ((i * step + past) / step)) (f ((i * step + past) / step + 1)) ((i * step + past) % step) step
      pick (yes d) = rw (digits_div i d, digits_mod i d)
      pick (no d) =
          let whole : past ≡ step = omega arith in
          rw (next_row (omega arith), digits_div (i + 1) p, digits_mod (i + 1) p, whole)
          (exact_next (f i) (f (i + 1)) step ∙ sym (exact_row (f (i + 1)) (f (i + 1 + 1)) step))

  pub past_value : past_row f i past step ≡ value_at f step (i * step + past)
  unfolding value_at past_row between
  past_value = ap (λ (z : ℤ). nearest z step) exact_past

  pub past-half : past_row_half f i past step ≡ value_half f step (i * step + past)
  unfolding value_half past_row_half between_half
  past-half = ap (λ (z : ℤ). on_half z step) exact_past

-- ---- the pair of an offset
module _ (n step offset i : ℕ) (two : 2 ≤ n) (p : 0 < step) (h : offset ≤ (n - 1) * step) (e : i ≡ min (offset / step) (n - 2)) where
  -- its number fits where the offset does
  pub row-most : i ≤ offset
  row-most = omega (arith, div-le_self offset step)

  -- what lies before row i, and past it
  pub back_most : i * step ≤ offset
  back_most =
      let low : i ≤ offset / step = omega arith in
      omega (arith, mul-le-mul_right step low, div-add-mod' offset step)

  pub past-most : offset - i * step ≤ step
  past-most = pick (dec_le (offset / step) (n - 2))
    where
      pick : Dec (offset / step ≤ n - 2) → offset - i * step ≤ step
      pick (yes d) =
          let row : i ≡ offset / step = omega arith in
          omega (arith, ap (λ (k : ℕ). k * step) row, div-add-mod' offset step, mod-lt offset p)
      pick (no d) =
          let last : n - 1 ≡ i + 1 = omega arith in
          omega (arith, ap (λ (k : ℕ). k * step) last, add-mul i 1 step)

  pub at_pair : step ≤ most_step → let at : At = record { row = i; past = offset - i * step; step = step } in Among n at × (offset_of at ≡ offset) × (at.step ≡ step)
  at_pair most = (record { stepped = record { past = past-most; some = p; most = most }; next = omega arith }, omega (arith, back_most), refl)

-- ---- a position among n rows
module _ (n : ℕ) (at : At) (among : Among n at) where
  -- its offset is not past the last row
  pub at_most : offset_of at ≤ (n - 1) * at.step
  at_most =
      let rows : at.row + 1 ≤ n - 1 = omega (arith, among.next) in
      omega (arith, mul-le-mul_right at.step rows, add-mul at.row 1 at.step, among.stepped.past)

  pub at_value : (f : ℕ → ℤ) → past_row f at.row at.past at.step ≡ value_at f at.step (offset_of at)
  at_value f = past_value f at.row at.past at.step among.stepped.some among.stepped.past

  pub at_half : (f : ℕ → ℤ) → past_row_half f at.row at.past at.step ≡ value_half f at.step (offset_of at)
  at_half f = past-half f at.row at.past at.step among.stepped.some among.stepped.past

  -- its words lie in the body
  pub at_within : (b : List ℕ) (w c : ℕ) → 4 * (w * n) ≤ length b → c < w → 4 * (w * at.row + c + w) + 4 ≤ length b
  at_within b w c rows inside = next-within b w c n rows inside at.row (omega (arith, among.next))

  -- and are not negative where no row is
  pub at_sizes : (f : ℕ → ℤ) → NotNegative f n → (le_z (pos 0) (f at.row) ≡ true) × (le_z (pos 0) (f (at.row + 1)) ≡ true)
  unfolding NotNegative
  at_sizes f all = (all at.row (omega (arith, among.next)), all (at.row + 1) (omega (arith, among.next)))
