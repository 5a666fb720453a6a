-- "Batch." s is the sheet, points the pairs, old what the answers' memory held before. Latitude and longitude in 0.001″, x and y in 0.01 ft.
use Rattle.std.specs.Prelude.{ℕ, zero, suc, ◌+◌, ◌*◌, ◌/◌, ◌%◌, List, [], ◌∷◌, ◌++◌, Bool, ◌&&◌, cond, ℤ, pos, length, get_or, drop, leb, eqb, Result, Ok, Err}
use Rattle.refusals.specs.declared.Refusal.{Refusal}
use Rattle.refusals.specs.Numbers.{number_of}
use Rattle.refusals.specs.Ladder.{need, or_else, where_is}
use Rattle.sheet_check.specs.Check.{check_of}
use Rattle.forward.specs.Forward.{PlaneTold}
use Rattle.convert.specs.Conversions.{geographic_to_plane}

-- "Pairs of 32-bit latitude and longitude": how many, and point i of them.
abbrev pub pairs : List ℤ → ℕ
pairs points = length points / 2

abbrev pub point_at : List ℕ → List ℤ → ℕ → PlaneTold
point_at s points i = geographic_to_plane s (get_or points (2 * i) (pos 0)) (get_or points (2 * i + 1) (pos 0))

-- "three 32-bit words per point are written, number, x, y"
abbrev pub words_of : PlaneTold → List ℤ
words_of r = pos r.number ∷ r.x ∷ r.y ∷ []

-- The words of the first n points.
unfoldable pub words : List ℕ → List ℤ → ℕ → List ℤ
words s points zero = []
words s points (suc n) = words s points n ++ words_of (point_at s points n)

-- "the count of points with number 0", among the first n.
abbrev pub one_if_answered : ℕ → ℕ
one_if_answered number = cond (eqb number 0) 1 0

unfoldable pub answered : List ℕ → List ℤ → ℕ → ℕ
answered s points zero = 0
answered s points (suc n) = answered s points n + one_if_answered (point_at s points n).number

-- False exactly where 17 is due: "odd batch, over 4,096 points, or too little room for answers".
unfoldable pub taken : ℕ → ℕ → Bool
taken given room = eqb (given % 2) 0 && leb (given / 2) 4_096 && leb (3 * (given / 2)) room

-- The answer, as it is told: "a number and the count of points with number 0".
pub record BatchedTold : Type 0 where
  pub number : ℕ
  pub count : ℕ

abbrev pub batched : ℕ → ℕ → BatchedTold
batched number count = record { number = number; count = count }

-- What code answers, as it is told.
abbrev pub batch_told : Result ℕ Refusal → BatchedTold
batch_told (Ok count) = batched 0 count
batch_told (Err r) = batched (number_of r) 0

-- "17 comes first, then the check's number; either [..] counts 0. Otherwise the answer's number is 0."
unfoldable pub batch_of : List ℕ → List ℤ → List ℤ → BatchedTold
batch_of s points old =
    need (taken (length points) (length old)) (batched 17 0)
    (or_else (λ r. r.number) (batched (check_of s).number 0)
    (batched 0 (answered s points (pairs points))))

-- The memory with the words of the first n points: "The unused tail of the answers stays."
abbrev pub after_pairs : List ℕ → List ℤ → ℕ → List ℤ → List ℤ
after_pairs s points n old = words s points n ++ drop (3 * n) old

-- The answers' memory after the batch: "either writes nothing".
unfoldable pub answers_of : List ℕ → List ℤ → List ℤ → List ℤ
answers_of s points old = where_is (batch_of s points old).number 0 (after_pairs s points (pairs points) old) old
