-- A line compared: each test of it, and what is written. Assumes nothing.
use mathlib.Core.Path.{◌≡◌, refl, sym}
use mathlib.Core.Bool.{Bool, true, false, not, ◌&&◌}
use mathlib.Core.List.{List, []}
use Prim.Native.Nat.{ℕ}
use native.Mathlib.Omega.{arith}
use borrow.Author.Tests.{eqb-true, eq-eqb}
use lib.Dec.{eqb}
use Rattle.refusals.specs.Tests.{same_as}
use Rattle.std.proofs.Math.Bool.{and_assoc}
use Rattle.std.specs.Ordering.{int_eq}
use Rattle.refusals.proofs.Ranges.{same_true, same_self, eq_same}
use Rattle.decimal.specs.Writing.{Wrote}
use Rattle.std.proofs.Common.{Option}
use Rattle.point_line.specs.declared.Line.{Line}
use Rattle.lines.specs.declared.Values.{Values}
use Rattle.lines.specs.Lines.{values_of}
use Rattle.compared.specs.Compared.{same_values, changes, change_line, change_text, compared_text}

-- ---- what is written
module _ (n : ℕ) (v w : Values) (changed : Bool) where
  pub change_none : changed ≡ false → [] ≡ change_text changed n v w
  unfolding change_text
  change_none h = rw h

  pub change_some : changed ≡ true → change_line n v w ≡ change_text changed n v w
  unfolding change_text
  change_some h = rw h

pub wrote_none : (l : List ℕ) (at : ℕ) → Wrote l l at at []
wrote_none l at = record { place = omega arith; bytes = refl }

-- ---- the derived `==` of two answers
pub eq_values : (v w : Values) → (eqb v.number w.number && (int_eq v.first w.first && int_eq v.second w.second)) ≡ same_values v w
unfolding same_values
eq_values v w = rw (eq_same v.first w.first, eq_same v.second w.second) (sym (and_assoc (eqb v.number w.number) (same_as v.first w.first) (same_as v.second w.second)))

-- ---- on the two sheets
module _ (s t : List ℕ) (l : Option Line) (v w : Values) (e : v ≡ values_of s l) (f : w ≡ values_of t l) (r : Bool) (q : r ≡ not (same_values v w)) where
  pub changes_is : r ≡ changes s t l
  unfolding changes
  changes_is = rw (q, e, f)

  pub text_is : (n : ℕ) → change_text r n v w ≡ compared_text s t n l
  unfolding compared_text
  text_is n = rw (changes_is, e, f)

-- ---- the test of two answers is that they are equal
three : (a b c : Bool) → a && b && c ≡ true → (a ≡ true) × (b ≡ true) × (c ≡ true)
three true true true h = (refl, refl, refl)
three true true false h = (refl, refl, h)
three true false true h = (refl, h, refl)
three true false false h = (refl, h, h)
three false true true h = (h, refl, refl)
three false true false h = (h, refl, h)
three false false true h = (h, h, refl)
three false false false h = (h, h, h)

pub same-answers : (v w : Values) → same_values v w ≡ true → v ≡ w
unfolding same_values
same-answers v w h =
    let all = three (eqb v.number w.number) (same_as v.first w.first) (same_as v.second w.second) h in
    rw (eqb-true v.number w.number all.0, same_true v.first w.first all.1, same_true v.second w.second all.2)

pub answers-same : (v : Values) → same_values v v ≡ true
unfolding same_values
answers-same v = rw (eq-eqb v.number v.number refl, same_self v.first, same_self v.second)
