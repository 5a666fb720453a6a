-- Laws of reading between rows: at a row it is the row and no half, and elsewhere it lies between the two rows, whatever the step. Assumes nothing.
use mathlib.Core.Path.{◌≡◌, sym, ap, ◌∙◌}
use mathlib.Core.Bool.{false}
use Prim.Native.Nat.{ℕ, ◌+◌, ◌*◌, ◌-◌, ◌<◌, ◌≤◌}
use native.Mathlib.Nat.{mul-add, mul-le-mul_right, le_refl, le_trans}
use native.Mathlib.Omega.{arith}
use lib.IntN.{ℤ, pos, nat_abs, ◌+ℤ◌, ◌-ℤ◌, ◌*ℤ◌, +ℤ_assoc, +ℤ_comm, +ℤ_idl, +ℤ_idr, *ℤ-zero, -ℤ-+ℤ_cancel}
use Rattle.rounding.specs.Nearest.{with_sign, nearest_size, nearest, on_half_size, on_half}
use Rattle.rounding.specs.Between.{exact_between, between, between_half}
use Rattle.rounding.proofs.Ring.{difference_times, times_sum}
use Rattle.rounding.proofs.Sizes.{size_sum, size_product}
use Rattle.rounding.proofs.Halves.{whole_no_half}
use Rattle.rounding.proofs.Rounding.{nearest_size-rises, nearest_size-most, nearest_size-least, size_nearest, nearest_multiple}

-- at a row the next one does not count
pub exact_row : (u w : ℤ) (step : ℕ) → exact_between u w 0 step ≡ u *ℤ pos step
exact_row u w step = ap (λ (z : ℤ). u *ℤ pos step +ℤ z) (*ℤ-zero (w -ℤ u)) ∙ +ℤ_idr (u *ℤ pos step)

pub at_row : (u w : ℤ) (step : ℕ) → 0 < step → between u w 0 step ≡ u
unfolding between
at_row u w step h = ap (λ (z : ℤ). nearest z step) (exact_row u w step) ∙ nearest_multiple u step h

pub no_half_at_row : (u w : ℤ) (step : ℕ) → 0 < step → between_half u w 0 step ≡ false
unfolding between_half
no_half_at_row u w step h = ap (λ (z : ℤ). on_half z step) (exact_row u w step) ∙ whole_no_half u step h

-- (a + b) + (c − b) = a + c
cancelled : (a b c : ℤ) → (a +ℤ b) +ℤ (c -ℤ b) ≡ a +ℤ c
cancelled a b c = +ℤ_assoc a b (c -ℤ b) ∙ ap (λ (z : ℤ). a +ℤ z) (+ℤ_comm b (c -ℤ b) ∙ -ℤ-+ℤ_cancel c b)

module _ (t step : ℕ) (inside : t ≤ step) where
  -- u·S + (w − u)·t = u·(S − t) + w·t: the rows, weighed by the other's distance
  pub weighed : (u w : ℤ) → exact_between u w t step ≡ u *ℤ pos (step - t) +ℤ w *ℤ pos t
  weighed u w =
      let split : step ≡ (step - t) + t = omega arith in
      ap (λ (n : ℕ). u *ℤ pos n +ℤ (w -ℤ u) *ℤ pos t) split
      ∙ ap (λ (z : ℤ). z +ℤ (w -ℤ u) *ℤ pos t) (times_sum u (pos (step - t)) (pos t))
      ∙ ap (λ (z : ℤ). u *ℤ pos (step - t) +ℤ u *ℤ pos t +ℤ z) (difference_times w u (pos t))
      ∙ cancelled (u *ℤ pos (step - t)) (u *ℤ pos t) (w *ℤ pos t)

  pub between_weighed : (u w : ℤ) → between u w t step ≡ nearest (u *ℤ pos (step - t) +ℤ w *ℤ pos t) step
  unfolding between
  between_weighed u w = ap (λ (z : ℤ). nearest z step) (weighed u w)

  -- rows that are not negative
  pub between_sizes : (u w : ℕ) → between (pos u) (pos w) t step ≡ pos (nearest_size (u * (step - t) + w * t) step)
  unfolding nearest with_sign
  between_sizes u w = between_weighed (pos u) (pos w)

  pub half_sizes : (u w : ℕ) → between_half (pos u) (pos w) t step ≡ on_half_size (u * (step - t) + w * t) step
  unfolding between_half on_half
  half_sizes u w = ap (λ (z : ℤ). on_half z step) (weighed (pos u) (pos w))

  -- the two weights together are the step
  whole_weight : (k : ℕ) → k * (step - t) + k * t ≡ k * step
  whole_weight k =
      let split : (step - t) + t ≡ step = omega arith in
      sym (mul-add k (step - t) t) ∙ ap (λ (n : ℕ). k * n) split

  weight_most : (u w k : ℕ) → u ≤ k → w ≤ k → u * (step - t) + w * t ≤ k * step
  weight_most u w k p q = omega (arith, whole_weight k, mul-le-mul_right (step - t) p, mul-le-mul_right t q)

  weight_least : (u w k : ℕ) → k ≤ u → k ≤ w → k * step ≤ u * (step - t) + w * t
  weight_least u w k p q = omega (arith, whole_weight k, mul-le-mul_right (step - t) p, mul-le-mul_right t q)

  module _ (positive : 0 < step) where
    -- the size is at most that of the rows' sizes, weighed alike
    pub size_between : (u w : ℤ) → nat_abs (between u w t step) ≤ nearest_size (nat_abs u * (step - t) + nat_abs w * t) step
    size_between u w =
        rw (between_weighed u w, size_nearest)
        (nearest_size-rises (nat_abs (u *ℤ pos (step - t) +ℤ w *ℤ pos t)) (nat_abs u * (step - t) + nat_abs w * t) step positive
        (omega (arith, size_sum (u *ℤ pos (step - t)) (w *ℤ pos t), size_product u (pos (step - t)), size_product w (pos t))))

    -- rows at most k in size give a value at most k in size
    pub between-most : (u w : ℤ) (k : ℕ) → nat_abs u ≤ k → nat_abs w ≤ k → nat_abs (between u w t step) ≤ k
    between-most u w k p q =
        le_trans (size_between u w)
        (nearest_size-most (nat_abs u * (step - t) + nat_abs w * t) step k positive (weight_most (nat_abs u) (nat_abs w) k p q))

    -- rows that are not negative, from lo to hi, give a value from lo to hi
    pub sizes_most : (u w hi : ℕ) → u ≤ hi → w ≤ hi → nearest_size (u * (step - t) + w * t) step ≤ hi
    sizes_most u w hi p q = nearest_size-most (u * (step - t) + w * t) step hi positive (weight_most u w hi p q)

    pub sizes_least : (u w lo : ℕ) → lo ≤ u → lo ≤ w → lo ≤ nearest_size (u * (step - t) + w * t) step
    sizes_least u w lo p q = nearest_size-least (u * (step - t) + w * t) step lo positive (weight_least u w lo p q)

-- a whole step past a row is the next row
pub exact_next : (u w : ℤ) (step : ℕ) → exact_between u w step step ≡ w *ℤ pos step
exact_next u w step =
    let none : step - step ≡ 0 = omega arith in
    weighed step step (le_refl step) u w
    ∙ ap (λ (n : ℕ). u *ℤ pos n +ℤ w *ℤ pos step) none
    ∙ ap (λ (z : ℤ). z +ℤ w *ℤ pos step) (*ℤ-zero u)
    ∙ +ℤ_idl (w *ℤ pos step)

pub at_next : (u w : ℤ) (step : ℕ) → 0 < step → between u w step step ≡ w
unfolding between
at_next u w step h = ap (λ (z : ℤ). nearest z step) (exact_next u w step) ∙ nearest_multiple w step h

pub no_half_at_next : (u w : ℤ) (step : ℕ) → 0 < step → between_half u w step step ≡ false
unfolding between_half
no_half_at_next u w step h = ap (λ (z : ℤ). on_half z step) (exact_next u w step) ∙ whole_no_half w step h
