-- The first fault of a run of places, which are the rows of a body or the entries of the contents, in rising order.
use Prim.{Unit}
use Rattle.std.specs.Prelude.{cond, ℕ, zero, suc, eqb, Result, Ok, Err}
use Rattle.refusals.specs.declared.Found.{Found}
use Rattle.refusals.specs.Numbers.{number_of}

-- A fault's number, and the place that has it: a row, or an entry, counted from 0. No fault is 0 0.
pub record Fault : Type 0 where
  pub number : ℕ
  pub place : ℕ

abbrev pub fault : ℕ → ℕ → Fault
fault number place = record { number = number; place = place }

-- What code has found, as a fault's number and its place.
abbrev pub first_told : Result (Unit {0}) Found → Fault
first_told (Ok u) = fault 0 0
first_told (Err f) = fault (number_of f.refusal) f.place

-- Of the n places from k on, the first with a fault, where `f k` is the number of the fault at place k and 0 for none. 0 0 where no place has one.
unfoldable pub first_fault : (ℕ → ℕ) → ℕ → ℕ → Fault
first_fault f zero k = fault 0 0
first_fault f (suc n) k = let rest = first_fault f n (suc k) in cond (eqb (f k) 0) rest (fault (f k) k)
