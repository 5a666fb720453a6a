-- The laws that a ladder of refusals is proved by, in the shape of the code's tests: f is what the code found of the test t. Assumes nothing.
use mathlib.Core.Path.{◌≡◌, refl, sym, ◌∙◌}
use mathlib.Core.Bool.{Bool, true, false, not, cond}
use Prim.Native.Nat.{ℕ, ◌<◌, ◌≤◌}
use lib.Dec.{eqb}
use borrow.Author.Tests.{lt-ltb, le-ltb, eq-eqb, ne_eqb, eqb-true, eqb-false}
use Rattle.std.proofs.lemmas.Bool.{not-true, not-false}
use Rattle.refusals.specs.Ladder.{need, where_below, where_is, or_else}

-- `if !f { return x; }`: the test failed, or it passed and y is the rest's answer
module _ {A : Type 0} (t f : Bool) where
  pub stop : (x rest : A) → f ≡ t → f ≡ false → x ≡ need t x rest
  unfolding need
  stop x rest h e = cc

  pub go : (x y rest : A) → f ≡ t → f ≡ true → y ≡ rest → y ≡ need t x rest
  unfolding need
  go x y rest h e r = cc

  -- `if f { return x; }`, where the test to pass is that t does not hold
  pub stop_on : (x rest : A) → f ≡ t → f ≡ true → x ≡ need (not t) x rest
  unfolding need
  stop_on x rest h e = cc

  pub go_past : (x y rest : A) → f ≡ t → f ≡ false → y ≡ rest → y ≡ need (not t) x rest
  unfolding need
  go_past x y rest h e r = cc

  -- `if f { return x; }`, where f is that the test failed, as `x != y` is
  pub stop_unless : (x rest : A) → f ≡ not t → f ≡ true → x ≡ need t x rest
  unfolding need
  stop_unless x rest h e = let failed : t ≡ false = not-true t (sym h ∙ e) in cc

  pub go_unless : (x y rest : A) → f ≡ not t → f ≡ false → y ≡ rest → y ≡ need t x rest
  unfolding need
  go_unless x y rest h e r = let passed : t ≡ true = not-false t (sym h ∙ e) in cc

-- past `if !f { .. }` the test holds
pub kept : (t f : Bool) → f ≡ t → f ≡ true → t ≡ true
kept t f h e = cc

-- `if a < b { .. } else { .. }`
module _ {A : Type 0} (a b : ℕ) where
  pub below : (x y z : A) → a < b → z ≡ x → z ≡ where_below a b x y
  unfolding where_below
  below x y z h e = rw (lt-ltb a b h) e

  pub beyond : (x y z : A) → b ≤ a → z ≡ y → z ≡ where_below a b x y
  unfolding where_below
  beyond x y z h e = rw (le-ltb a b h) e

-- `if a == b { return x; }`
module _ {A : Type 0} (a b : ℕ) where
  pub is : (x y z : A) → a ≡ b → z ≡ x → z ≡ where_is a b x y
  unfolding where_is
  is x y z h e = rw (eq-eqb a b h) e

  pub is_not : (x y z : A) → (a ≡ b → ⊥) → z ≡ y → z ≡ where_is a b x y
  unfolding where_is
  is_not x y z h e = rw (ne_eqb a b h) e

-- one answer after another: r is the code's where the definition has x
module _ {A : Type 0} (number : A → ℕ) (x y r : A) (e : r ≡ x) where
  pub refused : (number r ≡ 0 → ⊥) → r ≡ or_else number x y
  unfolding or_else
  refused n = e ∙ sym (rw (ne_eqb (number x) 0 (λ q. n (rw e q))))

  pub passed_on : (z : A) → number r ≡ 0 → z ≡ y → z ≡ or_else number x y
  unfolding or_else
  passed_on z n q = rw (eq-eqb (number x) 0 (rw e at n)) q

-- ---- what an answer of 0 tells of the ladder that gave it
-- its test holds, and the rest has no fault
pub rung : (t : Bool) (x rest : ℕ) → (x ≡ 0 → ⊥) → need t x rest ≡ 0 → (t ≡ true) × (rest ≡ 0)
unfolding need
rung true x rest n e = (refl, e)
rung false x rest n e = absurd (n e)

-- and a test that holds gives way to the rest
pub past : {A : Type 0} {t : Bool} (x rest : A) → t ≡ true → need t x rest ≡ rest
unfolding need
past x rest e = rw e

pub where_below_lem : {A : Type 0} (a b : ℕ) (x y : A) → a < b → where_below a b x y ≡ x
unfolding where_below
where_below_lem a b x y h = rw (lt-ltb a b h)

pub where_beyond : {A : Type 0} (a b : ℕ) (x y : A) → b ≤ a → where_below a b x y ≡ y
unfolding where_below
where_beyond a b x y h = rw (le-ltb a b h)

module _ {A : Type 0} (number : A → ℕ) (x y : A) where
  pub each_passes : number (or_else number x y) ≡ 0 → (number x ≡ 0) × (number y ≡ 0)
  unfolding or_else
  each_passes e = pick (eqb (number x) 0) refl e
    where
      pick : (b : Bool) → eqb (number x) 0 ≡ b → number (cond b y x) ≡ 0 → (number x ≡ 0) × (number y ≡ 0)
      pick true q e = (eqb-true (number x) 0 q, e)
      pick false q e = absurd (eqb-false (number x) 0 q e)
