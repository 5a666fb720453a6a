-- Refusals in their order: a ladder of tests, the first that fails gives the answer.
use Rattle.std.specs.Prelude.{Bool, true, false, cond, ℕ, ltb, eqb}

-- A test that has to pass, the answer where it fails, and what comes after it where it passes.
unfoldable pub need : {A : Type 0} → Bool → A → A → A
need true answer rest = rest
need false answer rest = answer

-- What to answer where a is below b, and where it is not.
unfoldable pub where_below : {A : Type 0} → ℕ → ℕ → A → A → A
where_below a b answer rest = cond (ltb a b) answer rest

-- What to answer where a is b, and where it is not.
unfoldable pub where_is : {A : Type 0} → ℕ → ℕ → A → A → A
where_is a b answer rest = cond (eqb a b) answer rest

-- An answer where it refuses, and what comes after where its number is 0. `number` gives an answer's number.
unfoldable pub or_else : {A : Type 0} → (A → ℕ) → A → A → A
or_else number answer rest = cond (eqb (number answer) 0) rest answer
