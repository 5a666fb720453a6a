-- A kind's body as it is lent to those who read it: it has every word that a row or a value between rows asks for, and its columns are the sheet's. Assumes nothing.
use mathlib.Core.Path.{◌≡◌, sym, ap, ◌∙◌}
use mathlib.Core.Bool.{Bool, true}
use mathlib.Core.List.{List}
use Prim.Native.Nat.{ℕ, ◌+◌, ◌*◌, ◌-◌, ◌<◌, ◌≤◌}
use native.Mathlib.Nat.{mul_comm, mul-le-mul_right, le_trans, lt_of_le_of_lt, le_of_lt}
use native.Mathlib.Omega.{arith}
use lib.Dec.{lit<, lit≤}
use lib.IntN.{ℤ, pos}
use lib.ListN.{length}
use lib.Signed.{le_z}
use mir.Syntax.{w32, w64}
use mir.Val.{Fits, to_z}
use Rattle.rounding.specs.Ranges.{most_step}
use Rattle.rounding.proofs.Holds.{held_size}
use Rattle.words.specs.Words.{unsigned_at, word_at}
use Rattle.entries.specs.declared.Place.{Place}
use Rattle.entries.specs.Layout.{last_kind, most_bytes, width_of, least_rows, most_rows, usual_step, farthest}
use Rattle.entries.specs.Entries.{rows_of, step_of, last_of, body_of, Within}
use Rattle.entries.proofs.ByKind.{by_kind}
use Rattle.contents.specs.Contents.{contents_of, Placed}
use Rattle.contents.proofs.Passing.{passed, rows_least, rows_most, step_usual, body_within}
use Rattle.reading.specs.declared.At.{At}
use Rattle.reading.specs.Tables.{column, past_row, past_row_half, offset_of, Among, NotNegative}
use Rattle.reading.proofs.Pairs.{at_most, at_value, at_half, at_within, at_sizes}
use Rattle.reading.proofs.Within.{row_within}
use Rattle.reading.proofs.Unsigned.{word_size}
use Rattle.tables.specs.Figures.{InTable, figure_of, figure_at, figure_half}

-- ---- the step of a kind of two rows or more
usual_most : (kind : ℕ) → 1 ≤ kind → kind ≤ last_kind → usual_step kind ≤ most_step
usual_most = by_kind (λ (k : ℕ). usual_step k ≤ most_step) (lit≤ tt) (lit≤ tt) (lit≤ tt) (lit≤ tt) (lit≤ tt) (lit≤ tt)

usual_some : (kind : ℕ) → 1 ≤ kind → kind ≤ last_kind → 2 ≤ least_rows kind → 0 < usual_step kind
usual_some =
    by_kind (λ (k : ℕ). 2 ≤ least_rows k → 0 < usual_step k)
    (λ h. absurd (omega arith))
    (λ h. lit< tt)
    (λ h. lit< tt)
    (λ h. lit< tt)
    (λ h. lit< tt)
    (λ h. lit< tt)

farthest-small : (kind : ℕ) → 1 ≤ kind → kind ≤ last_kind → farthest kind < 4_294_967_296
farthest-small = by_kind (λ (k : ℕ). farthest k < 4_294_967_296) (lit< tt) (lit< tt) (lit< tt) (lit< tt) (lit< tt) (lit< tt)

module _ (s : List ℕ) (z : (contents_of s).number ≡ 0) (kind : ℕ) (l : 1 ≤ kind) (h : kind ≤ last_kind) where
  pub step-most : step_of s kind ≤ most_step
  step-most = rw (step_usual s z kind l h) (usual_most kind l h)

  pub step_above : 2 ≤ least_rows kind → 0 < step_of s kind
  step_above two = rw (step_usual s z kind l h) (usual_some kind l h two)

  -- the last row's offset is a number of 32 bits
  last-small : last_of s kind < 4_294_967_296
  unfolding last_of
  last-small =
      let rows : rows_of s kind - 1 ≤ most_rows kind - 1 = omega (arith, rows_most s z kind l h) in
      rw (step_usual s z kind l h) (lt_of_le_of_lt (mul-le-mul_right (usual_step kind) rows) (farthest-small kind l h))

-- ---- the place
module _ (s : List ℕ) (kind : ℕ) (p : Place) (placed : Placed s kind p) where
  pub place_rows : p.rows ≡ rows_of s kind
  place_rows = ap (λ (q : Place). q.rows) placed.place

  pub place-step : p.step ≡ step_of s kind
  place-step = ap (λ (q : Place). q.step) placed.place

  pub rows_two : 2 ≤ least_rows kind → 2 ≤ p.rows
  rows_two two = rw place_rows (le_trans two (rows_least s placed.contents kind placed.least placed.most))

  -- a number that the place's step was found to be
  pub found_step : (n : ℕ) → p.step ≡ n → n ≡ step_of s kind
  found_step n e = sym e ∙ place-step

  -- an offset within the table, and the table's step
  pub offset_fits : (offset : ℕ) → Within s kind offset → Fits w32 offset
  offset_fits offset within = record { fits = lt_of_le_of_lt within.most (last-small s placed.contents kind placed.least placed.most) }

  module _ (step : ℕ) (is-step : step ≡ step_of s kind) where
    pub step-some : 2 ≤ least_rows kind → 0 < step
    step-some two = rw is-step (step_above s placed.contents kind placed.least placed.most two)

    pub step_small : step ≤ most_step
    step_small = rw is-step (step-most s placed.contents kind placed.least placed.most)

    pub step_fits : Fits w32 step
    step_fits = record { fits = lt_of_le_of_lt step_small (lit< tt) }

    pub offset_inside : (offset : ℕ) → Within s kind offset → offset ≤ (p.rows - 1) * step
    unfolding last_of
    offset_inside offset within = rw (place_rows, is-step) within.most

    -- a position among its rows, at its step
    pub in_table : (at : At) → Among p.rows at → at.step ≡ step → InTable s kind at
    in_table at among same = record { among = rw place_rows at among; step = same ∙ is-step }

  -- ---- the body that was cut
  module _ (b : List ℕ) (is : b ≡ body_of s kind) (long : length b ≡ 4 * (p.rows * width_of kind)) (width : ℕ) (w : width ≡ width_of kind) where
    -- its words in all
    pub body_long : 4 * (width * p.rows) ≤ length b
    body_long =
        let same : width * p.rows ≡ p.rows * width_of kind = mul_comm width p.rows ∙ ap (λ (n : ℕ). p.rows * n) w in
        omega (arith, same, long)

    body_short : length b ≤ most_bytes
    body_short =
        let whole : 4 * (p.rows * width_of kind) ≤ length s = rw place_rows (omega (arith, body_within s placed.contents kind placed.least placed.most)) in
        omega (arith, long, whole, (passed s placed.contents).short)

    -- row i's word, which stands at a small number
    module _ (number i : ℕ) (c : number < width_of kind) (r : i < rows_of s kind) where
      pub word-asks : 4 * (width * i + number) + 4 ≤ length b
      word-asks = row_within b width number p.rows body_long (rw w c) i (rw place_rows r)

      pub row_fits : Fits w64 (width * i)
      row_fits = record { fits = omega (arith, word-asks, body_short) }

      pub word_fits : Fits w64 (width * i + number)
      word_fits = record { fits = omega (arith, word-asks, body_short) }

    -- the figure in row i, which is not negative, from its word without a sign
    module _ (number i n : ℕ) (q : n ≡ unsigned_at b (width * i + number)) (small : n < 4_294_967_296) (sign : le_z (pos 0) (figure_of s kind number i) ≡ true) where
      figure_word : word_at b (width * i + number) ≡ figure_of s kind number i
      figure_word = rw (is, w)

      pub figure_is : to_z w64 n ≡ figure_of s kind number i
      figure_is =
          let size = word_size b (width * i + number) n q small (rw figure_word sign) in
          (held_size w64 (le_of_lt small) tt).is ∙ sym size ∙ figure_word

    -- what a reading at a position asks
    module _ (number : ℕ) (at : At) (there : InTable s kind at) where
      among : Among p.rows at
      among = rw place_rows there.among

      lent_is : column b width number ≡ figure_of s kind number
      lent_is = rw (is, w)

      pub at_asks : number < width_of kind → 4 * (width * at.row + number + width) + 4 ≤ length b
      at_asks c = at_within p.rows at among b width number body_long (rw w c)

      signs : NotNegative (figure_of s kind number) (rows_of s kind) → (le_z (pos 0) (column b width number at.row) ≡ true) × (le_z (pos 0) (column b width number (at.row + 1)) ≡ true)
      signs all = at_sizes p.rows at among (column b width number) (rw (lent_is, place_rows) all)

      pub this_sign : NotNegative (figure_of s kind number) (rows_of s kind) → le_z (pos 0) (column b width number at.row) ≡ true
      this_sign all = (signs all).0

      pub next_sign : NotNegative (figure_of s kind number) (rows_of s kind) → le_z (pos 0) (column b width number (at.row + 1)) ≡ true
      next_sign all = (signs all).1

      -- and what it gives
      pub value_is : (r : ℤ) → r ≡ past_row (column b width number) at.row at.past at.step → r ≡ figure_at s kind number (offset_of at)
      value_is r q = q ∙ at_value p.rows at among (column b width number) ∙ rw (lent_is, there.step)

      pub half_is : (r : Bool) → r ≡ past_row_half (column b width number) at.row at.past at.step → r ≡ figure_half s kind number (offset_of at)
      half_is r q = q ∙ at_half p.rows at among (column b width number) ∙ rw (lent_is, there.step)

-- ---- a position in a table stands at an offset within it
pub table_within : (s : List ℕ) (kind : ℕ) (at : At) → InTable s kind at → Within s kind (offset_of at)
unfolding last_of
table_within s kind at there = record { most = rw (← there.step) (at_most (rows_of s kind) at there.among) }
