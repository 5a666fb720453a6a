-- The laws of a line's numbers: what the code finds is the definition's, and how far each reaches. Assumes nothing.
use mathlib.Core.Path.{◌≡◌, refl}
use mathlib.Core.Bool.{Bool, true, false, cond}
use mathlib.Core.List.{List}
use Prim.Native.Nat.{ℕ, ◌+◌, ◌≤◌, ◌<◌}
use native.Mathlib.Omega.{arith}
use borrow.Author.Tests.{ne_eqb}
use lib.Dec.{eqb}
use lib.ListN.{length, drop, get_or}
use Rattle.std.specs.Prelude.{Option, Some, None, IfSome, option_and_then}
use Rattle.decimal.specs.declared.Number.{Number}
use Rattle.decimal.specs.Reading.{number_of}
use Rattle.decimal.proofs.NumbersRead.{number-most}
use Rattle.fields.specs.Fields.{field, field_at, last_at}

-- ---- what the code finds: n is the number that it read, if it read one, b the byte behind
pub field_is : (line : List ℕ) (at b : ℕ) (n : Number) → Some n ≡ number_of (drop at line) → b ≡ get_or line (at + n.length) 0 → cond (eqb b 32) (Some (field n.value (at + n.length + 1))) None ≡ field_at line at
unfolding field_at
field_is line at b n e g = rw (← e, g)

pub field_none : (line : List ℕ) (at : ℕ) → None ≡ number_of (drop at line) → None ≡ field_at line at
unfolding field_at
field_none line at e = rw (← e)

pub last_is : (line : List ℕ) (at : ℕ) (n : Number) → Some n ≡ number_of (drop at line) → cond (eqb (at + n.length) (length line)) (Some (field n.value (at + n.length))) None ≡ last_at line at
unfolding last_at
last_is line at n e = rw (← e)

pub last_none : (line : List ℕ) (at : ℕ) → None ≡ number_of (drop at line) → None ≡ last_at line at
unfolding last_at
last_none line at e = rw (← e)

-- ---- how far each reaches
pub field-most : (line : List ℕ) (at : ℕ) → IfSome (field_at line at) (λ f. f.next ≤ at + 12)
unfolding field_at
field-most line at = go (number_of (drop at line)) (number-most (drop at line))
  where
    go : (o : Option Number) → IfSome o (λ n. n.length ≤ 11)
        → IfSome (option_and_then (λ n. cond (eqb (get_or line (at + n.length) 0) 32) (Some (field n.value (at + n.length + 1))) None) o) (λ f. f.next ≤ at + 12)
    go None h = tt
    go (Some n) h = blank (eqb (get_or line (at + n.length) 0) 32)
      where
        blank : (t : Bool) → IfSome (cond t (Some (field n.value (at + n.length + 1))) None) (λ f. f.next ≤ at + 12)
        blank true = omega arith
        blank false = tt

pub last-long : (line : List ℕ) (at : ℕ) → at + 11 < length line → last_at line at ≡ None
unfolding last_at
last-long line at h = go (number_of (drop at line)) (number-most (drop at line))
  where
    go : (o : Option Number) → IfSome o (λ n. n.length ≤ 11)
        → option_and_then (λ n. cond (eqb (at + n.length) (length line)) (Some (field n.value (at + n.length))) None) o ≡ None
    go None m = refl
    go (Some n) m = rw (ne_eqb (at + n.length) (length line) (λ e. omega arith))
