-- The laws of `first_fault`: those that a loop over places goes by, and that it answers 0 exactly where no place has a fault. Assumes nothing.
use mathlib.Core.Path.{◌≡◌, refl, sym, ◌∙◌}
use mathlib.Core.Bool.{Bool, true, false, cond}
use Prim.Native.Nat.{ℕ, zero, suc, ◌+◌, ◌-◌, ◌<◌, ◌≤◌}
use native.Mathlib.Nat.{add-zero}
use native.Mathlib.Numerals.{add-one}
use native.Mathlib.Omega.{arith}
use lib.Dec.{eqb}
use borrow.Author.Tests.{eq-eqb, ne_eqb, eqb-true, eqb-false}
use Rattle.refusals.specs.Faults.{fault, first_fault}

-- ---- of a loop: i places were passed, and x is what the test of place i answered
module _ (f : ℕ → ℕ) (n i : ℕ) where
  one_passed : i < n → f i ≡ 0 → first_fault f (n - i) i ≡ first_fault f (n - (i + 1)) (i + 1)
  unfolding first_fault
  one_passed h e = let l : n - i ≡ suc (n - (i + 1)) = omega arith in rw (l, eq-eqb (f i) 0 e, add-one i)

  one_faulty : i < n → (f i ≡ 0 → ⊥) → first_fault f (n - i) i ≡ fault (f i) i
  unfolding first_fault
  one_faulty h e = let l : n - i ≡ suc (n - (i + 1)) = omega arith in rw (l, ne_eqb (f i) 0 e)

  none_left : n ≤ i → first_fault f (n - i) i ≡ fault 0 0
  unfolding first_fault
  none_left h = let l : n - i ≡ 0 = omega arith in rw l

  module _ (passed : first_fault f n 0 ≡ first_fault f (n - i) i) where
    -- place i has no fault: on to the next
    pub on : {x : ℕ} → i < n → x ≡ f i → x ≡ 0 → first_fault f n 0 ≡ first_fault f (n - (i + 1)) (i + 1)
    on h e z = passed ∙ one_passed h (sym e ∙ z)

    -- place i has the first fault
    pub here : {x : ℕ} → i < n → x ≡ f i → (x ≡ 0 → ⊥) → fault x i ≡ first_fault f n 0
    here h e z = rw e (sym (passed ∙ one_faulty h (λ q. z (e ∙ q))))

    -- no place is left
    pub end : n ≤ i → fault 0 0 ≡ first_fault f n 0
    end h = sym (passed ∙ none_left h)

-- ---- what its answer says of the places
-- the fault's place is one of the n from k on
pub place-small : (f : ℕ → ℕ) (n k : ℕ) → (first_fault f n k).place ≤ k + n
unfolding first_fault
place-small f zero k = omega arith
place-small f (suc n) k = pick (eqb (f k) 0) (place-small f n (suc k))
  where
    pick : (b : Bool) → (first_fault f n (suc k)).place ≤ suc k + n → (cond b (first_fault f n (suc k)) (fault (f k) k)).place ≤ k + suc n
    pick true h = omega arith
    pick false h = omega arith

-- number 0: no place has a fault
pub all_pass : (f : ℕ → ℕ) (n k : ℕ) → (first_fault f n k).number ≡ 0 → (j : ℕ) → j < n → f (k + j) ≡ 0
unfolding first_fault
all_pass f zero k e j h = absurd (omega arith)
all_pass f (suc n) k e j h = pick (eqb (f k) 0) refl e (all_pass f n (suc k)) j h
  where
    pick : (b : Bool) → eqb (f k) 0 ≡ b → (cond b (first_fault f n (suc k)) (fault (f k) k)).number ≡ 0
        → ((first_fault f n (suc k)).number ≡ 0 → (j : ℕ) → j < n → f (suc k + j) ≡ 0) → (j : ℕ) → j < suc n → f (k + j) ≡ 0
    pick true q e rest zero h = rw add-zero (eqb-true (f k) 0 q)
    pick true q e rest (suc j) h = let l : k + suc j ≡ suc k + j = omega arith in rw l (rest e j (omega arith))
    pick false q e rest j h = absurd (eqb-false (f k) 0 q e)

-- no place has a fault: 0 0
pub no_fault : (f : ℕ → ℕ) (n k : ℕ) → ((j : ℕ) → j < n → f (k + j) ≡ 0) → first_fault f n k ≡ fault 0 0
unfolding first_fault
no_fault f zero k h = refl
no_fault f (suc n) k h =
    let z : f k ≡ 0 = rw add-zero at (h 0 (omega arith)) in
    rw (eq-eqb (f k) 0 z) (no_fault f n (suc k) (λ j l. let e : k + suc j ≡ suc k + j = omega arith in rw e at (h (suc j) (omega arith))))

-- two judges that agree at every place find the same first fault
pub same_faults : (f g : ℕ → ℕ) (n k : ℕ) → ((j : ℕ) → j < n → f (k + j) ≡ g (k + j)) → first_fault f n k ≡ first_fault g n k
unfolding first_fault
same_faults f g zero k h = refl
same_faults f g (suc n) k h =
    let now : f k ≡ g k = rw add-zero at (h 0 (omega arith)) in
    let rest = same_faults f g n (suc k) (λ j l. let e : k + suc j ≡ suc k + j = omega arith in rw e at (h (suc j) (omega arith))) in
    rw (now, rest)
