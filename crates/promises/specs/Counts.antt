-- What is promised of the counts that drawing tools hand over, by this paper's numbers.
use Rattle.std.specs.Prelude.{◌≡◌, ℤ, pos, Float}
use Rattle.counts.specs.Whole.{whole_of, number_of, value_of}
use Rattle.counts.specs.Meaning.{IsCount}

-- "15: an f64 that is not a whole number within ±2,147,483,647": given exactly there, and a float that is one has number 0 and that value. So "−0 is 0": IEEE 754 takes the two for equal.
pub record Counted (x : Float) : Type 0 where
  pub a_count : (n : ℤ) → IsCount x n → (number_of (whole_of x) ≡ 0) × (value_of (whole_of x) ≡ n)
  pub no_count : ((n : ℤ) → IsCount x n → ⊥) → (number_of (whole_of x) ≡ 15) × (value_of (whole_of x) ≡ pos 0)
