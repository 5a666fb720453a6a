-- The numbers of a line, one after another: "one blank between, decimal, optional minus, one to ten digits, within 32 bits". A line is its bytes without the line feed.
use Rattle.std.specs.Prelude.{ℕ, ◌+◌, cond, List, eqb, ℤ, length, drop, get_or, Option, Some, None, option_and_then}
use Rattle.decimal.specs.Reading.{number_of}
use Rattle.fields.specs.declared.Field.{Field}

abbrev pub field : ℤ → ℕ → Field
field value next = record { value = value; next = next }

-- A number from `at` on and a blank behind it; the next number stands behind the blank.
unfoldable pub field_at : List ℕ → ℕ → Option Field
field_at line at = option_and_then (λ n. cond (eqb (get_or line (at + n.length) 0) 32) (Some (field n.value (at + n.length + 1))) None) (number_of (drop at line))

-- A number from `at` on and the line's end behind it.
unfoldable pub last_at : List ℕ → ℕ → Option Field
last_at line at = option_and_then (λ n. cond (eqb (at + n.length) (length line)) (Some (field n.value (at + n.length))) None) (number_of (drop at line))
