-- The laws that a search down the entries goes by: i entries are left, and x is the kind that the last of them names. Assumes nothing.
use mathlib.Core.Path.{◌≡◌, sym, ◌∙◌}
use mathlib.Core.Bool.{true, false}
use mathlib.Core.List.{List}
use Prim.Native.Nat.{ℕ, suc, ◌-◌, ◌<◌, ◌≤◌}
use native.Mathlib.Omega.{arith}
use borrow.Author.Tests.{eq-eqb, ne_eqb}
use Rattle.entries.specs.declared.Form.{Form}
use Rattle.entries.specs.Entries.{kind_at, named, entry_of}

module _ (f : Form) (s : List ℕ) (kind n i : ℕ) (l : n ≡ suc i) where
  one-named : kind_at f s i ≡ kind → named f s kind n ≡ true
  unfolding named
  one-named e = rw (l, eq-eqb (kind_at f s i) kind e)

  one-unnamed : (kind_at f s i ≡ kind → ⊥) → named f s kind n ≡ named f s kind i
  unfolding named
  one-unnamed e = rw (l, ne_eqb (kind_at f s i) kind e)

  one_found : kind_at f s i ≡ kind → entry_of f s kind n ≡ i
  unfolding entry_of
  one_found e = rw (l, eq-eqb (kind_at f s i) kind e)

  one_passed : (kind_at f s i ≡ kind → ⊥) → entry_of f s kind n ≡ entry_of f s kind i
  unfolding entry_of
  one_passed e = rw (l, ne_eqb (kind_at f s i) kind e)

-- ---- whether an entry names the kind
module _ (f : Form) (s : List ℕ) (kind n i : ℕ) (passed : named f s kind n ≡ named f s kind i) where
  pub named_here : {x : ℕ} → 0 < i → x ≡ kind_at f s (i - 1) → x ≡ kind → true ≡ named f s kind n
  named_here h k q = sym (passed ∙ one-named f s kind i (i - 1) (omega arith) (sym k ∙ q))

  pub named_on : {x : ℕ} → 0 < i → x ≡ kind_at f s (i - 1) → (x ≡ kind → ⊥) → named f s kind n ≡ named f s kind (i - 1)
  named_on h k q = passed ∙ one-unnamed f s kind i (i - 1) (omega arith) (λ z. q (k ∙ z))

  pub named_end : i ≤ 0 → false ≡ named f s kind n
  unfolding named
  named_end h = let l : i ≡ 0 = omega arith in sym (passed ∙ rw l)

-- ---- which entry does
module _ (f : Form) (s : List ℕ) (kind n i : ℕ) (passed : entry_of f s kind n ≡ entry_of f s kind i) where
  pub found_here : {x : ℕ} → 0 < i → x ≡ kind_at f s (i - 1) → x ≡ kind → i - 1 ≡ entry_of f s kind n
  found_here h k q = sym (passed ∙ one_found f s kind i (i - 1) (omega arith) (sym k ∙ q))

  pub found_on : {x : ℕ} → 0 < i → x ≡ kind_at f s (i - 1) → (x ≡ kind → ⊥) → entry_of f s kind n ≡ entry_of f s kind (i - 1)
  found_on h k q = passed ∙ one_passed f s kind i (i - 1) (omega arith) (λ z. q (k ∙ z))

  pub found_end : i ≤ 0 → 0 ≡ entry_of f s kind n
  unfolding entry_of
  found_end h = let l : i ≡ 0 = omega arith in sym (passed ∙ rw l)
