-- Which f64 is a count: "a whole number within ±2,147,483,647".
use Rattle.std.specs.Prelude.{ℕ, ◌*◌, ◌/◌, ◌%◌, Bool, ◌&&◌, cond, ℤ, pos, neg_ℤ, leb, eqb, Option, Some, None, Float}
use Rattle.std.specs.Float.{nan, inf, fin, binary64}
use Rattle.std.specs.Float.Ieee.{up, down, of_int}

-- "±2,147,483,647"
abbrev pub most_count : ℕ
most_count = 2_147_483_647

-- A count as an f64, which holds a 32-bit one as it is.
abbrev pub float : ℤ → Float
float n = of_int binary64 n

-- The whole number of size n, below zero where s is true. "−0 is 0."
abbrev pub signed : Bool → ℕ → ℤ
signed s n = cond s (neg_ℤ (pos n)) (pos n)

-- The fraction n/d with the sign s: a count where d divides n and the size is within the limit.
abbrev pub whole_nat : Bool → ℕ → ℕ → Option ℤ
whole_nat s n d = cond (eqb (n % d) 0 && leb (n / d) most_count) (Some (signed s (n / d))) None

-- A float by its exact value, which is m·2ᵉ with the sign s; 2ᵉ is the fraction up e / down e. NaN and the infinities are no counts.
unfoldable pub whole_of : Float → Option ℤ
whole_of nan = None
whole_of (inf s) = None
whole_of (fin s m e) = whole_nat s (m * up e) (down e)

-- "Where an answer is an enum, a definition gives this paper's number and values for each of its cases": a count is "0 accepted" with its value; no count is 15, "an f64 that is not a whole
-- number within ±2,147,483,647", with zero.
abbrev pub number_of : Option ℤ → ℕ
number_of (Some n) = 0
number_of None = 15

abbrev pub value_of : Option ℤ → ℤ
value_of (Some n) = n
value_of None = pos 0
