-- Reading a table between its rows, over the body's part, whatever its step.
use Rattle.std.specs.Prelude.{◌≡◌, Bool, true, ◌&&◌, List, ℕ, ◌+◌, ◌-◌, ◌*◌, ◌/◌, ◌%◌, ◌<◌, ◌≤◌, ℤ, pos}
use Rattle.std.specs.Int.Signed.{le_z}
use Rattle.rounding.specs.Between.{between, between_half}
use Rattle.rounding.specs.Ranges.{most_step}
use Rattle.words.specs.Words.{word_at}
use Rattle.reading.specs.declared.At.{At}

-- The figure in row i of a column: `width` is the words in a row, `number` the column's number. Rows and columns count from 0.
abbrev pub column : List ℕ → ℕ → ℕ → ℕ → ℤ
column body width number i = word_at body (width * i + number)

-- "Between rows u and w of step S, at an offset t from 0 to below S, the value is u + (w − u)t/S, brought to the table's unit by nearest, once": u is
-- row i's figure, and w the next row's.
unfoldable pub past_row : (ℕ → ℤ) → ℕ → ℕ → ℕ → ℤ
past_row f i t step = between (f i) (f (i + 1)) t step

unfoldable pub past_row_half : (ℕ → ℤ) → ℕ → ℕ → ℕ → Bool
past_row_half f i t step = between_half (f i) (f (i + 1)) t step

-- The value at an offset from row 0, for a step above 0: the whole steps in it give the row, and the rest is t. "At the last row only t = 0 is used":
-- the row after it, which is not there, then counts 0 times. An offset past the last row is for its user to refuse first.
unfoldable pub value_at : (ℕ → ℤ) → ℕ → ℕ → ℤ
value_at f step offset = past_row f (offset / step) (offset % step) step

-- Whether that met a half. At a row, the last one among them, it never does.
unfoldable pub value_half : (ℕ → ℤ) → ℕ → ℕ → Bool
value_half f step offset = past_row_half f (offset / step) (offset % step) step

-- A position in a table, `At`: so much past a row, up to the whole step to the next. What is read there is the value at the position's offset from row 0.
abbrev pub offset_of : At → ℕ
offset_of at = at.row * at.step + at.past

-- A step above 0 and not too wide, and at most the whole step past the row.
pub record Stepped (at : At) : Type 0 where
  pub past : at.past ≤ at.step
  pub some : 0 < at.step
  pub most : at.step ≤ most_step

-- The position lies among n rows: its row has a next.
pub record Among (n : ℕ) (at : At) : Type 0 where
  pub stepped : Stepped at
  pub next : at.row + 1 < n

-- z, counted from row 0, lies from there to the last row. With n rows the last stands n − 1 steps past row 0. 10 and 13 refuse what is below or above, 11 and 12,
-- which look at sizes, what is above.
unfoldable pub within_rows : ℕ → ℕ → ℤ → Bool
within_rows rows step z = le_z (pos 0) z && le_z z (pos ((rows - 1) * step))

-- No figure of the first n rows is negative.
unfoldable pub NotNegative : (ℕ → ℤ) → ℕ → Type 0
NotNegative f n = (i : ℕ) → i < n → le_z (pos 0) (f i) ≡ true
