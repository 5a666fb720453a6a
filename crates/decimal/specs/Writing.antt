-- A number written: its decimal digits without zeros before them, after a minus where it is below zero.
use Rattle.std.specs.Prelude.{ℕ, zero, suc, ◌+◌, ◌*◌, ◌/◌, ◌%◌, List, [], ◌∷◌, ◌++◌, ◌≡◌, ℤ, pos, negsuc, length}
use Rattle.std.proofs.lemmas.List.Edits.{sets}
use Rattle.refusals.specs.Ladder.{where_below}

-- How many digits v has, where it has k or more and `limit` is the least number with more than k; `left` bounds the search.
unfoldable pub digits_needed_from : ℕ → ℕ → ℕ → ℕ → ℕ
digits_needed_from zero limit k v = k
digits_needed_from (suc left) limit k v = where_below v limit k (digits_needed_from left (10 * limit) (k + 1) v)

-- How many digits v has, to the twenty of a 64-bit number.
unfoldable pub digits_needed : ℕ → ℕ
digits_needed v = digits_needed_from 19 10 1 v

-- The last k digits of v.
unfoldable pub spelled : ℕ → ℕ → List ℕ
spelled zero v = []
spelled (suc k) v = spelled k (v / 10) ++ (48 + v % 10) ∷ []

-- A size in decimal.
unfoldable pub size_text : ℕ → List ℕ
size_text v = spelled (digits_needed v) v

-- A signed number in decimal.
unfoldable pub number_text : ℤ → List ℕ
number_text (pos n) = size_text n
number_text (negsuc n) = 45 ∷ size_text (suc n)

-- What writing a text leaves: the memory with the text from `at` on, byte after byte, all else as it was, and the place after it.
pub record Wrote (old new : List ℕ) (at next : ℕ) (text : List ℕ) : Type 0 where
  pub place : next ≡ at + length text
  pub bytes : new ≡ sets old at text
