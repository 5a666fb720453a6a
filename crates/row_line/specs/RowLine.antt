-- The line of the correction program, `minute y0 H V a`, and the correction that it asks for. A line is its bytes without the line feed; numbers stand as in a line of the points
-- program.
use Rattle.std.specs.Prelude.{ℕ, List, ℤ, Option, Some, None, option_map, option_and_then}
use Rattle.correct.specs.Correction.{figures, correction_of, corrected_of}
use Rattle.fields.specs.Fields.{field_at, last_at}
use Rattle.row_line.specs.declared.NewRow.{NewRow}

abbrev pub asks : ℤ → ℤ → ℤ → ℤ → ℤ → NewRow
asks minute y0 h v a = record { minute = minute; y0 = y0; h = h; v = v; a = a }

-- "It gives a minute and new y0, H, V, a." Five numbers, each where the one before it ends.
unfoldable pub row_asked : List ℕ → Option NewRow
row_asked line =
    option_and_then
    (λ minute.
    option_and_then
    (λ y0.
    option_and_then (λ h. option_and_then (λ v. option_map (λ a. asks minute.value y0.value h.value v.value a.value) (last_at line v.next)) (field_at line h.next)) (field_at line y0.next))
    (field_at line minute.next))
    (field_at line 0)

-- 18, "a program line of no known form"; else "It answers one number".
unfoldable pub number_of_row : List ℕ → Option NewRow → ℕ
number_of_row s None = 18
number_of_row s (Some r) = correction_of s r.minute (figures r.y0 r.h r.v r.a)

unfoldable pub sheet_of_row : List ℕ → Option NewRow → List ℕ
sheet_of_row s None = s
sheet_of_row s (Some r) = corrected_of s r.minute (figures r.y0 r.h r.v r.a)

abbrev pub number_by : List ℕ → List ℕ → ℕ
number_by s line = number_of_row s (row_asked line)

-- The sheet after it: "Refused, it writes nothing."
abbrev pub sheet_by : List ℕ → List ℕ → List ℕ
sheet_by s line = sheet_of_row s (row_asked line)
