-- What the law of counts says: which floats they are.
use Rattle.std.specs.Prelude.{◌≡◌, true, ◌≤◌, ℤ, nat_abs, Some, None, Float}
use Rattle.std.specs.Float.Ieee.{eq}
use Rattle.counts.specs.Whole.{most_count, float, whole_of}

-- x is the whole number n, as IEEE 754 compares floats, and n is "within ±2,147,483,647".
abbrev pub IsCount : Float → ℤ → Type 0
IsCount x n = (nat_abs n ≤ most_count) × (eq x (float n) ≡ true)

-- A float is answered as a count exactly where it is that count, and refused exactly where it is none.
pub record Exactly (x : Float) : Type 0 where
  pub always : (n : ℤ) → IsCount x n → whole_of x ≡ Some n
  pub only : (n : ℤ) → whole_of x ≡ Some n → IsCount x n
  pub refused : whole_of x ≡ None → (n : ℤ) → IsCount x n → ⊥
