-- The door's ways out: two counts by the two floats, an answer by its number, and 15 where there are no two counts. Assumes nothing.
use mathlib.Core.Bool.{Bool}
use mathlib.Core.Path.{◌≡◌, refl, ap, ◌∙◌}
use Prim.Native.Nat.{ℕ}
use lib.IntN.{ℤ}
use borrow.Author.Tests.{eq-eqb, ne_eqb}
use Rattle.refusals.specs.Ladder.{need}
use Rattle.refusals.specs.declared.Refusal.{Refusal}
use Rattle.refusals.specs.Numbers.{number_of as refusal_number}
use Rattle.refusals.proofs.Numbers.{number-some}
use Rattle.rounding.proofs.Bits.{both-same}
use Rattle.std.specs.Prelude.{Option, Some, None}
use Rattle.door.specs.Door.{Answer}
use Rattle.door.specs.Door.Answer.{Counts, Refused}
use Rattle.counts.specs.Whole.{float, number_of, value_of}
use Rattle.door.specs.Door.{both, answer_of, door_of}

-- ---- two counts
pub first_none : (v w : Option ℤ) → v ≡ None → None ≡ both v w
first_none v w e = rw e

pub second_none : (v w : Option ℤ) → w ≡ None → None ≡ both v w
second_none None w e = refl
second_none (Some a) w e = rw e

pub both-counts : (v w : Option ℤ) (a b : ℤ) → v ≡ Some a → w ≡ Some b → Some (a, b) ≡ both v w
both-counts v w a b e f = rw (e, f)

-- ---- an answer
pub refuses : (number : ℕ) (a b : ℤ) (half : Bool) → (number ≡ 0 → ⊥) → Refused number ≡ answer_of number a b half
unfolding answer_of need
refuses number a b half h = rw (ne_eqb number 0 h)

pub answers : (number : ℕ) (a b : ℤ) (half : Bool) → number ≡ 0 → Counts (float a) (float b) half ≡ answer_of number a b half
unfolding answer_of need
answers number a b half e = rw (eq-eqb number 0 e)

-- a refusal by its number, and counts by 0
pub refused_told : (r : Refusal) (a b : ℤ) (half : Bool) → Refused (refusal_number r) ≡ answer_of (refusal_number r) a b half
refused_told r a b half = refuses (refusal_number r) a b half (number-some r)

pub counts_told : (a b : ℤ) (half : Bool) → Counts (float a) (float b) half ≡ answer_of 0 a b half
counts_told a b half = answers 0 a b half refl

-- ---- the door, before the sheet and after
pub before : (p : Option (ℤ × ℤ)) (convert : ℤ → ℤ → Answer) → p ≡ None → Refused 15 ≡ door_of p convert
unfolding door_of
before p convert e = rw e

-- of two conversions that answer the same to each two counts
pub same_door : (p : Option (ℤ × ℤ)) (f g : ℤ → ℤ → Answer) → ((a b : ℤ) → f a b ≡ g a b) → door_of p f ≡ door_of p g
unfolding door_of
same_door None f g e = refl
same_door (Some (a, b)) f g e = e a b

-- of two that answer the same to the counts that the floats are, where both are counts
pub same-counts : (v w : Option ℤ) (f g : ℤ → ℤ → Answer) → (number_of v ≡ 0 → number_of w ≡ 0 → f (value_of v) (value_of w) ≡ g (value_of v) (value_of w)) → door_of (both v w) f ≡ door_of (both v w) g
unfolding door_of
same-counts None w f g e = refl
same-counts (Some a) None f g e = refl
same-counts (Some a) (Some b) f g e = e refl refl

-- a and b as the conversion reads them from their bits are a' and b', and `tell` gives the tools what it answers
pub after : {R : Type 0} (f : ℤ → ℤ → R) (tell : R → Answer) (p : Option (ℤ × ℤ)) {a b a' b' : ℤ} {r : R} (answer : Answer)
    → p ≡ Some (a, b) → a' ≡ a → b' ≡ b → r ≡ f a' b' → answer ≡ tell r → answer ≡ door_of p (λ a b. tell (f a b))
unfolding door_of
after f tell p answer e one two worked told = told ∙ ap tell (worked ∙ both-same f one two) ∙ rw e
