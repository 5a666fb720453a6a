-- Figures raised by 2³¹, so that they are sizes: reading between such rows, and such a figure beside a number. Assumes nothing.
use mathlib.Core.Path.{◌≡◌, refl, sym, ap, ◌∙◌}
use Prim.Native.Nat.{ℕ, ◌+◌, ◌*◌, ◌-◌, ◌≤◌}
use native.Mathlib.Nat.{le_trans}
use native.Mathlib.Omega.{arith}
use lib.Dec.{lit≤}
use lib.IntN.{ℤ, pos, neg_ℤ, nat_abs, ◌+ℤ◌, ◌-ℤ◌, ◌*ℤ◌, +ℤ_assoc, +ℤ_comm, +ℤ-neg_ℤ_cancel, -ℤ-+ℤ_cancel, neg_ℤ-neg_ℤ, neg_ℤ-+ℤ}
use mir.Syntax.{w64}
use mir.Val.{Fits, SFits, to_z, of_z}
use Rattle.rounding.specs.Between.{exact_between, lowered}
use Rattle.rounding.specs.Ranges.{most_row, most_step, most_numerator}
use Rattle.rounding.proofs.Ring.{times_sum, sum_times, swap_last}
use Rattle.rounding.proofs.Sizes.{product_most}
use Rattle.rounding.proofs.Holds.{Holds, held_size, difference, difference_fits, rebounded, size_most}
use Rattle.rounding.proofs.Interval.{weighed}

-- ---- reading between rows
-- (a + b) + (c + d) = (a + c) + (b + d)
regroup : (a b c d : ℤ) → (a +ℤ b) +ℤ (c +ℤ d) ≡ (a +ℤ c) +ℤ (b +ℤ d)
regroup a b c d =
    sym (+ℤ_assoc (a +ℤ b) c d) ∙ ap (λ (x : ℤ). x +ℤ d) (swap_last a b c) ∙ +ℤ_assoc (a +ℤ c) b d

module _ (t step : ℕ) (inside : t ≤ step) where
  -- both rows raised by k
  raised_sum : (u w k : ℤ) → (u +ℤ k) *ℤ pos (step - t) +ℤ (w +ℤ k) *ℤ pos t ≡ (u *ℤ pos (step - t) +ℤ w *ℤ pos t) +ℤ k *ℤ pos step
  raised_sum u w k =
      let split : (step - t) + t ≡ step = omega arith in
      ap (λ (x : ℤ). x +ℤ (w +ℤ k) *ℤ pos t) (sum_times u k (pos (step - t)))
      ∙ ap (λ (x : ℤ). u *ℤ pos (step - t) +ℤ k *ℤ pos (step - t) +ℤ x) (sum_times w k (pos t))
      ∙ regroup (u *ℤ pos (step - t)) (k *ℤ pos (step - t)) (w *ℤ pos t) (k *ℤ pos t)
      ∙ ap (λ (x : ℤ). u *ℤ pos (step - t) +ℤ w *ℤ pos t +ℤ x) (sym (times_sum k (pos (step - t)) (pos t)) ∙ ap (λ (n : ℕ). k *ℤ pos n) split)

  -- u and w are two rows' figures, raised
  pub exact_raised : (u w : ℕ) → pos (u * (step - t) + w * t) -ℤ pos (2_147_483_648 * step) ≡ exact_between (lowered u) (lowered w) t step
  unfolding lowered
  exact_raised u w =
      let k = pos 2_147_483_648 in
      let low = pos u -ℤ k in
      let next = pos w -ℤ k in
      let back : pos (u * (step - t) + w * t) ≡ (low +ℤ k) *ℤ pos (step - t) +ℤ (next +ℤ k) *ℤ pos t =
      rw (-ℤ-+ℤ_cancel (pos u) k, -ℤ-+ℤ_cancel (pos w) k) in
      ap (λ (x : ℤ). x -ℤ pos (2_147_483_648 * step)) (back ∙ raised_sum low next k)
      ∙ +ℤ-neg_ℤ_cancel (low *ℤ pos (step - t) +ℤ next *ℤ pos t) (pos (2_147_483_648 * step))
      ∙ sym (weighed t step inside low next)

-- ---- the sum of the rows, weighed, as the code has it
module _ (u w t step : ℕ) (hu : u ≤ most_row) (hw : w ≤ most_row) (ht : t ≤ step) (hs : step ≤ most_step) where
  first_most : u * (step - t) ≤ most_row * most_step
  first_most = product_most most_row most_step hu (omega arith)

  second_most : w * t ≤ most_row * most_step
  second_most = product_most most_row most_step hw (omega arith)

  pub weighed_most : u * (step - t) + w * t ≤ 2_000_000_000_000_000_000
  weighed_most = omega (arith, first_most, second_most)

  pub weighed_numerator : u * (step - t) + w * t ≤ most_numerator
  weighed_numerator = le_trans weighed_most (lit≤ tt)

  pub first_fits : Fits w64 (u * (step - t))
  first_fits = record { fits = omega (arith, first_most) }

  pub second_fits : Fits w64 (w * t)
  second_fits = record { fits = omega (arith, second_most) }

  pub weighed_fits : Fits w64 (u * (step - t) + w * t)
  weighed_fits = record { fits = omega (arith, weighed_most) }

  -- the same sum as a signed number, less what it is raised by
  sum_held : Holds w64 (u * (step - t) + w * t) (pos (u * (step - t) + w * t)) 2_000_000_000_000_000_000
  sum_held = held_size w64 weighed_most tt

  raise : Holds w64 (2_147_483_648 * step) (pos (2_147_483_648 * step)) (2_147_483_648 * most_step)
  raise = held_size w64 (omega arith) tt

  pub weighed_signed : SFits w64 (pos (u * (step - t) + w * t))
  weighed_signed = record { sfits = omega (arith, weighed_most) }

  pub less_raise_fits : SFits w64 (to_z w64 (u * (step - t) + w * t) -ℤ to_z w64 (2_147_483_648 * step))
  less_raise_fits = difference_fits sum_held raise tt

  pub less_raise : Holds w64 (of_z w64 (to_z w64 (u * (step - t) + w * t) -ℤ to_z w64 (2_147_483_648 * step))) (pos (u * (step - t) + w * t) -ℤ pos (2_147_483_648 * step)) most_numerator
  less_raise = rebounded (difference sum_held raise tt) refl (le_trans (difference sum_held raise tt).size (lit≤ tt))

  pub less_raise_most : nat_abs (to_z w64 (of_z w64 (to_z w64 (u * (step - t) + w * t) -ℤ to_z w64 (2_147_483_648 * step)))) ≤ most_numerator
  less_raise_most = size_most less_raise tt

-- ---- a figure r from its raised word, beside a number z
pub raised_height : (r : ℕ) (z : ℤ) → (z +ℤ pos 2_147_483_648) -ℤ pos r ≡ z -ℤ lowered r
unfolding lowered
raised_height r z =
    let k = pos 2_147_483_648 in
    +ℤ_assoc z k (neg_ℤ (pos r))
    ∙ ap (λ (x : ℤ). z +ℤ x) (+ℤ_comm k (neg_ℤ (pos r)) ∙ sym (neg_ℤ-+ℤ (pos r) (neg_ℤ k) ∙ ap (λ (x : ℤ). neg_ℤ (pos r) +ℤ x) (neg_ℤ-neg_ℤ k)))
