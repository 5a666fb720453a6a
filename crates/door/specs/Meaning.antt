-- What the laws of the door say: an answer tells the conversion's number, values and mark.
use Rattle.std.specs.Prelude.{◌≡◌, Bool, false, ℕ, ℤ, pos}
use Rattle.door.specs.declared.Point.{Point}
use Rattle.door.specs.Door.{Answer}
use Rattle.counts.specs.Whole.{float, whole_of, value_of}
use Rattle.counts.specs.Whole as whole
use Rattle.door.specs.Door.{number_of, first_of, second_of, half_of}

-- The answer tells this number, these two values, and whether some rounding met a half.
pub record Told (answer : Answer) (number : ℕ) (a b : ℤ) (half : Bool) : Type 0 where
  pub numbered : number_of answer ≡ number
  pub one : first_of answer ≡ float a
  pub two : second_of answer ≡ float b
  pub marked : half_of answer ≡ half

-- A door tells what the conversion answers, where both floats are counts; and 15 with zeros and no half where one is not, whatever the conversion.
pub record Tells (door : Point → Answer) (number : ℤ → ℤ → ℕ) (one two : ℤ → ℤ → ℤ) (half : ℤ → ℤ → Bool) : Type 0 where
  pub counts : (p : Point) → whole.number_of (whole_of p.first) ≡ 0 → whole.number_of (whole_of p.second) ≡ 0
      → let a = value_of (whole_of p.first) in let b = value_of (whole_of p.second) in Told (door p) (number a b) (one a b) (two a b) (half a b)
  pub first_none : (p : Point) → whole.number_of (whole_of p.first) ≡ 15 → Told (door p) 15 (pos 0) (pos 0) false
  pub second_none : (p : Point) → whole.number_of (whole_of p.second) ≡ 15 → Told (door p) 15 (pos 0) (pos 0) false
