-- What a figure in its range has, and that `same_as` is equality. Assumes nothing.
use mathlib.Core.Path.{◌≡◌, refl, sym, ap, ◌∙◌}
use mathlib.Core.Bool.{Bool, true, false}
use lib.Dec.{eqb}
use lib.IntN.{ℤ, pos, negsuc}
use lib.Signed.{le_z}
use borrow.Author.Tests.{eq-eqb, eqb-true, eqb-false}
use mir.Syntax.{Width}
use mir.Val.{SFits, to_z, of_z}
use mir.Facts.{to_z-of_z}
use native.Mathlib.Omega.{arith}
use Rattle.std.specs.Ordering.{int_eq}
use Rattle.std.proofs.lemmas.Bool.Decides.{nat_tests}
use Rattle.refusals.specs.Tests.{in_range, same_as}
use Rattle.rounding.proofs.Tests.{both}

-- what a figure in its range has
pub range_true : (least x most : ℤ) → in_range least x most ≡ true → (le_z least x ≡ true) × (le_z x most ≡ true)
unfolding in_range
range_true least x most e = both (le_z least x) (le_z x most) e

-- ---- equality
pub same_true : (x y : ℤ) → same_as x y ≡ true → x ≡ y
unfolding same_as
same_true (pos x) (pos y) e = ap pos (eqb-true x y e)
same_true (pos x) (negsuc y) e = cc
same_true (negsuc x) (pos y) e = cc
same_true (negsuc x) (negsuc y) e = ap negsuc (eqb-true x y e)

pub same_self : (x : ℤ) → same_as x x ≡ true
unfolding same_as
same_self (pos x) = eq-eqb x x refl
same_self (negsuc x) = eq-eqb x x refl

-- `==` of two figures in a derived comparison
pub eq_same : (x y : ℤ) → int_eq x y ≡ same_as x y
unfolding same_as
eq_same (pos x) (pos y) = grind (arith, nat_tests)
eq_same (pos x) (negsuc y) = refl
eq_same (negsuc x) (pos y) = refl
eq_same (negsuc x) (negsuc y) = grind (arith, nat_tests)

-- the machine's `x == y`, which compares bits
pub same_bits : (w : Width) (x y : ℤ) → SFits w x → SFits w y → eqb (of_z w x) (of_z w y) ≡ same_as x y
same_bits w x y p q = pick (eqb (of_z w x) (of_z w y)) (same_as x y) refl refl
  where
    pick : (f t : Bool) → eqb (of_z w x) (of_z w y) ≡ f → same_as x y ≡ t → f ≡ t
    pick true true e h = refl
    pick false false e h = refl
    pick true false e h =
        let z : x ≡ y = sym (to_z-of_z p) ∙ ap (to_z w) (eqb-true (of_z w x) (of_z w y) e) ∙ to_z-of_z q in
        sym (rw z (same_self y)) ∙ h
    pick false true e h = absurd (eqb-false (of_z w x) (of_z w y) e (ap (of_z w) (same_true x y h)))
