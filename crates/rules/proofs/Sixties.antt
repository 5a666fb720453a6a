-- A difference over 60 seconds, tested without a division: 60·d lies within 30 of the scaled change exactly where d is the difference. Assumes nothing.
use mathlib.Core.Path.{◌≡◌, refl, sym, ap, ◌∙◌}
use mathlib.Core.Bool.{Bool, true, false}
use Prim.Native.Nat.{ℕ, ◌%◌, ◌≤◌}
use native.Mathlib.Nat.{le_of_suc-le-suc}
use borrow.Author.Tests.{le-leb}
use lib.IntN.{ℤ, pos, negsuc, neg_ℤ, nat_abs, ◌-ℤ◌, ◌*ℤ◌}
use Rattle.rounding.proofs.Tests.{never}
use Rattle.steps.specs.Steps.{per_second}
use Rattle.steps.proofs.StepBounds.{per_second_near, per_second_within}
use Rattle.refusals.specs.Tests.{in_range, same_as}
use Rattle.refusals.proofs.Ranges.{same_true, same_self}
use Rattle.rules.proofs.WhatPasses.{range_most}

size_in_range : (z : ℤ) → nat_abs z ≤ 30 → in_range (neg_ℤ (pos 30)) z (pos 30) ≡ true
unfolding in_range
size_in_range (pos z) h = le-leb z 30 h
size_in_range (negsuc z) h = cc (le-leb z 29 (le_of_suc-le-suc h))

module _ (scale : ℕ) (change d : ℤ) (twenties : scale % 20 ≡ 0) where
  -- how much 60·d is more than the scaled change
  abbrev off : ℤ
  off = d *ℤ pos 60 -ℤ pos scale *ℤ change

  pub tested : in_range (neg_ℤ (pos 30)) off (pos 30) ≡ same_as d (per_second scale change)
  tested = pick (in_range (neg_ℤ (pos 30)) off (pos 30)) (same_as d (per_second scale change)) refl refl
    where
      pick : (f t : Bool) → in_range (neg_ℤ (pos 30)) off (pos 30) ≡ f → same_as d (per_second scale change) ≡ t → f ≡ t
      pick true true e h = refl
      pick false false e h = refl
      pick true false e h =
          let is = per_second_near scale change twenties d (range_most 30 off e) in
          never (sym h ∙ ap (λ (z : ℤ). same_as z (per_second scale change)) is ∙ same_self (per_second scale change))
      pick false true e h =
          let is = same_true d (per_second scale change) h in
          never (sym e ∙ size_in_range off (rw is (per_second_within scale change)))
