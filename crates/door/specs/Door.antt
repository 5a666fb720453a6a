-- "Tools' door." What the door answers to a point, by the definitions of the conversions in `convert`.
-- s is the sheet, p the point.
use Rattle.std.specs.Prelude.{Bool, false, List, ℕ, eqb, ℤ, pos, Option, Some, None, Float, Result, Ok, Err}
use Rattle.std.specs.Float.{binary64}
use Rattle.std.specs.Float.Ieee.{div}
use Rattle.refusals.specs.declared.Refusal.{Refusal}
use Rattle.refusals.specs.Numbers.{number_of as refusal_number}
use Rattle.refusals.specs.Ladder.{need}
use Rattle.forward.specs.Forward.{PlaneTold}
use Rattle.inverse.specs.Inverse.{GeographicTold}
use Rattle.convergence.specs.Grid.{GridTold}
use Rattle.convert.specs.Conversions.{geographic_to_plane, plane_to_geographic, convergence_and_scale}
use Rattle.door.specs.declared.Point.{Point}
use Rattle.door.specs.declared.TwoCounts.{TwoCounts}
use Rattle.counts.specs.Whole.{float, whole_of}

-- "and get two f64 counts or a refusal number", with whether some rounding on the way to the counts met a half.
pub data Answer : Type 0 where
  Counts : Float → Float → Bool → Answer
  Refused : ℕ → Answer

-- What code answers, as it is told.
abbrev pub door_told : Result TwoCounts Refusal → Answer
door_told (Ok c) = Counts c.first c.second c.half
door_told (Err r) = Refused (refusal_number r)

-- "Drawing tools hand over a point as two f64 counts": both floats have to be counts.
abbrev pub both : Option ℤ → Option ℤ → Option (ℤ × ℤ)
both None w = None
both (Some a) None = None
both (Some a) (Some b) = Some (a, b)

abbrev pub counts_of : Point → Option (ℤ × ℤ)
counts_of p = both (whole_of p.first) (whole_of p.second)

-- "and get two f64 counts or a refusal number", and "the f64 answers carry it": a conversion's number, its two values and whether it met a half, as the tools get them.
unfoldable pub answer_of : ℕ → ℤ → ℤ → Bool → Answer
answer_of number a b half = need (eqb number 0) (Refused number) (Counts (float a) (float b) half)

-- "Where an answer is an enum, a definition gives this paper's number and values for each of its cases": counts are "0 accepted", and "A refused conversion carries zeros."
-- `half_of` gives the mark of each case.
abbrev pub number_of : Answer → ℕ
number_of (Counts a b half) = 0
number_of (Refused n) = n

abbrev pub first_of : Answer → Float
first_of (Counts a b half) = a
first_of (Refused n) = float (pos 0)

abbrev pub second_of : Answer → Float
second_of (Counts a b half) = b
second_of (Refused n) = float (pos 0)

-- "some rounding in it met a half (no in a refusal)"
abbrev pub half_of : Answer → Bool
half_of (Counts a b half) = half
half_of (Refused n) = false

-- "15 is answered before the sheet is looked at": `convert` is what looks at it, and is asked only where both floats are counts.
unfoldable pub door_of : Option (ℤ × ℤ) → (ℤ → ℤ → Answer) → Answer
door_of None convert = Refused 15
door_of (Some p) convert = convert p.0 p.1

-- Each conversion's answer, as the tools get it.
abbrev pub plane_answer : PlaneTold → Answer
plane_answer r = answer_of r.number r.x r.y r.half

abbrev pub geographic_answer : GeographicTold → Answer
geographic_answer r = answer_of r.number r.latitude r.longitude r.half

abbrev pub grid_answer : GridTold → Answer
grid_answer r = answer_of r.number r.convergence r.scale r.half

-- "Geographic to plane" through the door: latitude and west longitude in 0.001″ to x and y in 0.01 ft.
abbrev pub to_plane : List ℕ → Point → Answer
to_plane s p = door_of (counts_of p) (λ a b. plane_answer (geographic_to_plane s a b))

-- "Plane to geographic" through the door: x and y in 0.01 ft to latitude and west longitude in 0.001″.
abbrev pub to_geographic : List ℕ → Point → Answer
to_geographic s p = door_of (counts_of p) (λ a b. geographic_answer (plane_to_geographic s a b))

-- "Convergence and scale" through the door: x and y in 0.01 ft to Δα in 0.1″ and k in 10⁻⁷.
abbrev pub to_grid : List ℕ → Point → Answer
to_grid s p = door_of (counts_of p) (λ a b. grid_answer (convergence_and_scale s a b))

-- "A further question gives a hundredths count in feet as one f64 division by 100; the count is a signed 32-bit number": both floats hold their counts as they are, and the quotient is rounded once.
abbrev pub feet_of : ℤ → Float
feet_of n = div binary64 (float n) (float (pos 100))
