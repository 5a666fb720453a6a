-- A number read from the front of bytes: "decimal, optional minus, one to ten digits, within 32 bits".
use Rattle.std.specs.Prelude.{ℕ, suc, ◌+◌, ◌-◌, ◌*◌, Bool, ◌&&◌, cond, List, [], ◌∷◌, leb, eqb, ℤ, pos, neg_ℤ, drop, get_or, Option, Some, None, option_and_then}
use Rattle.refusals.specs.Ladder.{need}
use Rattle.refusals.specs.Tests.{in_range}
use Rattle.decimal.specs.declared.Digits.{Digits}
use Rattle.decimal.specs.declared.Number.{Number}

-- The digit that a byte stands for, "0" to "9", or 10.
abbrev pub digit_of : ℕ → ℕ
digit_of b = cond (leb 48 b && leb b 57) (b - 48) 10

-- How many digits stand at the front, and the value of v followed by them.
unfoldable pub digit_count : List ℕ → ℕ
digit_count [] = 0
digit_count (b ∷ s) = cond (leb (digit_of b) 9) (suc (digit_count s)) 0

unfoldable pub value_after : ℕ → List ℕ → ℕ
value_after v [] = v
value_after v (b ∷ s) = cond (leb (digit_of b) 9) (value_after (10 * v + digit_of b) s) v

abbrev pub digits : ℕ → ℕ → Digits
digits count value = record { count = count; value = value }

-- "one to ten digits"; none where there are fewer or more.
unfoldable pub digits_of : List ℕ → Option Digits
digits_of s = need (leb 1 (digit_count s) && leb (digit_count s) 10) None (Some (digits (digit_count s) (value_after 0 s)))

-- "optional minus": whether one stands at the front, and how many bytes it takes.
abbrev pub minus_of : List ℕ → Bool
minus_of s = eqb (get_or s 0 0) 45

abbrev pub minus_length : Bool → ℕ
minus_length minus = cond minus 1 0

abbrev pub number : ℕ → ℤ → Number
number length value = record { length = length; value = value }

-- The value after a minus, or after none.
abbrev pub signed_value : Bool → ℕ → ℤ
signed_value minus value = cond minus (neg_ℤ (pos value)) (pos value)

-- "within 32 bits"
unfoldable pub signed : Bool → Digits → Option Number
signed minus d =
    need (in_range (neg_ℤ (pos 2_147_483_648)) (signed_value minus d.value) (pos 2_147_483_647)) None
    (Some (number (minus_length minus + d.count) (signed_value minus d.value)))

-- The number at the front, and how many bytes it takes. None where there are not one to ten digits, or 32 bits do not hold it.
unfoldable pub number_of : List ℕ → Option Number
number_of s = option_and_then (signed (minus_of s)) (digits_of (drop (minus_length (minus_of s)) s))
