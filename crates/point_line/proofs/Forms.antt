-- What a line asks: the two numbers in turn, and a line that is too long. Assumes nothing.
use mathlib.Core.Path.{◌≡◌, refl, sym, ◌∙◌}
use mathlib.Core.Bool.{Bool, true, false, ◌&&◌, cond}
use mathlib.Core.List.{List}
use Prim.Native.Nat.{ℕ, ◌+◌, ◌≤◌, ◌<◌}
use native.Mathlib.Omega.{arith}
use lib.Dec.{eqb}
use lib.ListN.{length, get_or}
use Rattle.std.specs.Prelude.{Option, Some, None, IfSome, is_some, option_map, option_and_then}
use Rattle.fields.specs.declared.Field.{Field}
use Rattle.fields.specs.Fields.{field_at, last_at}
use Rattle.fields.proofs.Fields.{field-most, last-long}
use Rattle.point_line.specs.declared.Form.{Form}
use Rattle.point_line.specs.PointLine.{form_of, asks, numbers_of, line_of}

-- ---- the line: form, blank, first and second are what the code found
module _
    (line : List ℕ)
    (form : Option Form)
    (blank : ℕ)
    (first second : Option Field)
    (ef : form ≡ form_of (get_or line 0 0))
    (eb : blank ≡ get_or line 1 0)
    (e1 : first ≡ field_at line 2)
    (e2 : second ≡ option_and_then (λ f. last_at line f.next) first)
  where
    abbrev found : Bool
    found = is_some form && eqb blank 32 && is_some first && is_some second

    pub not_known : found ≡ false → None ≡ line_of line
    unfolding line_of numbers_of
    not_known h = rw (← ef, ← eb, ← e1) (go form (eqb blank 32) first (rw e2 at h))
      where
        go : (form : Option Form) (t : Bool) (first : Option Field) → (is_some form && t && is_some first && is_some (option_and_then (λ f. last_at line f.next) first)) ≡ false
            → None ≡ option_and_then (λ form. cond t (option_and_then (λ f. option_map (λ s. asks form f.value s.value) (last_at line f.next)) first) None) form
        go None t first h = refl
        go (Some f) false first h = refl
        go (Some f) true None h = refl
        go (Some f) true (Some a) h = last (last_at line a.next) h
          where
            last : (o : Option Field) → is_some o ≡ false → None ≡ option_map (λ s. asks f a.value s.value) o
            last None h = refl
            last (Some b) h = cc

    pub known : (f : Form) (a b : Field) → form ≡ Some f → eqb blank 32 ≡ true → first ≡ Some a → second ≡ Some b → Some (asks f a.value b.value) ≡ line_of line
    unfolding line_of numbers_of
    known f a b p q r s =
        let l : last_at line a.next ≡ Some b = rw r at (sym e2 ∙ s) in
        rw (← ef, p, ← eb, q, ← e1, r, l)

-- ---- a line of more than 25 bytes is of no known form
module _ (line : List ℕ) (long : 25 < length line) where
  no_numbers : (form : Form) → numbers_of line form ≡ None
  unfolding numbers_of
  no_numbers form = go (field_at line 2) (field-most line 2)
    where
      go : (o : Option Field) → IfSome o (λ f. f.next ≤ 2 + 12) → option_and_then (λ f. option_map (λ s. asks form f.value s.value) (last_at line f.next)) o ≡ None
      go None h = refl
      go (Some f) h = rw (last-long line f.next (omega arith))

  pub too_long : line_of line ≡ None
  unfolding line_of
  too_long = go (form_of (get_or line 0 0)) (eqb (get_or line 1 0) 32)
    where
      go : (o : Option Form) (t : Bool) → option_and_then (λ form. cond t (numbers_of line form) None) o ≡ None
      go None t = refl
      go (Some form) true = no_numbers form
      go (Some form) false = refl
