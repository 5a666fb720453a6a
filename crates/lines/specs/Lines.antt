-- What is printed for a line of the "Points program". A line is its bytes without the line feed; s is the sheet.
use Rattle.std.specs.Prelude.{ℕ, List, [], ◌∷◌, ◌++◌, ℤ, pos, Option, Some, None}
use Rattle.refusals.specs.Ladder.{where_is}
use Rattle.forward.specs.Forward.{PlaneTold}
use Rattle.inverse.specs.Inverse.{GeographicTold}
use Rattle.convergence.specs.Grid.{GridTold}
use Rattle.convert.specs.Conversions.{geographic_to_plane, plane_to_geographic, convergence_and_scale}
use Rattle.decimal.specs.Writing.{size_text, number_text}
use Rattle.point_line.specs.declared.Line.{Line}
use Rattle.point_line.specs.PointLine.{by_form, line_of}
use Rattle.lines.specs.declared.Values.{Values}

-- ---- what is printed
-- A text, and the byte after it: 32 is a blank, 10 a line feed.
abbrev pub ended : List ℕ → ℕ → List ℕ
ended text b = text ++ b ∷ []

-- "number, with x y, or latitude longitude, or Δα in tenths and k", and a line feed.
unfoldable pub answer_line : ℕ → ℤ → ℤ → List ℕ
answer_line number a b = ended (size_text number) 32 ++ (ended (number_text a) 32 ++ ended (number_text b) 10)

-- 18, and a line feed.
unfoldable pub unknown_line : List ℕ
unknown_line = ended (size_text 18) 10

-- "It prints the check's answer": number, kind, row, and a line feed.
unfoldable pub verdict_line : ℕ → ℕ → ℕ → List ℕ
verdict_line number kind row = ended (size_text number) 32 ++ (ended (size_text kind) 32 ++ ended (size_text row) 10)

-- ---- what a line is answered
abbrev pub values : ℕ → ℤ → ℤ → Values
values number first second = record { number = number; first = first; second = second }

-- 18: "a program line of no known form".
abbrev pub no_values : Values
no_values = values 18 (pos 0) (pos 0)

abbrev pub plane_values : PlaneTold → Values
plane_values r = values r.number r.x r.y

abbrev pub geographic_values : GeographicTold → Values
geographic_values r = values r.number r.latitude r.longitude

abbrev pub grid_values : GridTold → Values
grid_values r = values r.number r.convergence r.scale

-- G is geographic to plane, P plane to geographic, S convergence and scale.
unfoldable pub values_of : List ℕ → Option Line → Values
values_of s None = no_values
values_of s (Some l) =
    by_form l.form
    (plane_values (geographic_to_plane s l.first l.second))
    (geographic_values (plane_to_geographic s l.first l.second))
    (grid_values (convergence_and_scale s l.first l.second))

-- 18 stands alone; any other number has its two values after it.
unfoldable pub text_of : Values → List ℕ
text_of v = where_is v.number 18 unknown_line (answer_line v.number v.first v.second)

-- "then one line per line".
unfoldable pub answer_text : List ℕ → List ℕ → List ℕ
answer_text s line = text_of (values_of s (line_of line))

-- Room for any line: three numbers of at most 21 bytes, with a byte after each.
abbrev pub line_room : ℕ
line_room = 66
