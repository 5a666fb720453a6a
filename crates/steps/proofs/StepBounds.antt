-- One step's answer is within what the next step asks, and the differences over 60 seconds meet no half. Assumes nothing.
use mathlib.Core.Path.{◌≡◌, sym, ap, ◌∙◌}
use Prim.Native.Nat.{ℕ, ◌+◌, ◌*◌, ◌/◌, ◌%◌, ◌<◌, ◌≤◌}
use native.Mathlib.Nat.{le_refl, le_trans, div-add-mod'}
use native.Mathlib.Omega.{arith}
use lib.Dec.{lit<, lit≤}
use lib.IntN.{ℤ, pos, nat_abs, ◌+ℤ◌, ◌-ℤ◌, ◌*ℤ◌, *ℤ_comm}
use Rattle.rounding.specs.Ranges.{most_h, most_v, most_a, most_b, most_c, most_p, most_m, most_d, most_s, most_q, most_x, most_word, most_scale, most_change}
use Rattle.steps.specs.Steps.{q_of, size_of_x, rise, reduction, approximate_l, size_of_l, convergence, per_second}
use Rattle.rounding.proofs.Sizes.{product_most, size_product, sum_most, difference_most, times_most}
use Rattle.rounding.proofs.Rounding.{nearest_size-most, nearest_size_le, size_nearest}
use Rattle.rounding.proofs.Ring.{times_assoc, difference_times}
use Rattle.rounding.proofs.Apart.{nearest-within, only-within}

-- q of any s within the kind 3 rows is one that `rise` takes
pub q_most : (s : ℕ) → s ≤ most_s → q_of s ≤ most_q
unfolding q_of
q_most s h = nearest_size-most (s * s) 10_000_000 most_q (lit< tt) (product_most most_s most_s h h)

-- the size of x', in 0.01 ft
pub x_size_most : (h s : ℕ) (a b : ℤ) → h ≤ most_h → s ≤ most_s → nat_abs a ≤ most_a → nat_abs b ≤ most_b → nat_abs (size_of_x h s a b) ≤ 61_204_000
unfolding size_of_x
x_size_most h s a b p q k l =
    rw (size_nearest (pos (h * s) +ℤ a *ℤ b *ℤ pos 1_000) 10_000_000)
    (nearest_size-most (nat_abs (pos (h * s) +ℤ a *ℤ b *ℤ pos 1_000)) 10_000_000 61_204_000 (lit< tt)
    (sum_most (pos (h * s)) (a *ℤ b *ℤ pos 1_000) {A = most_h * most_s} {B = most_a * most_b * 1_000} (product_most most_h most_s p q) (times_most (a *ℤ b) (pos 1_000) (times_most a b k l) (le_refl 1_000))))

-- the rise of y above y0, in 0.01 ft
pub rise-most : (v q : ℕ) (c : ℤ) → v ≤ most_v → q ≤ most_q → nat_abs c ≤ most_c → nat_abs (rise v q c) ≤ 504_200
unfolding rise
rise-most v q c p k l =
    rw (size_nearest (pos (v * q) +ℤ c *ℤ pos 1_000_000) 10_000_000)
    (nearest_size-most (nat_abs (pos (v * q) +ℤ c *ℤ pos 1_000_000)) 10_000_000 504_200 (lit< tt)
    (sum_most (pos (v * q)) (c *ℤ pos 1_000_000) {A = most_v * most_q} {B = most_c * 1_000_000} (product_most most_v most_q p k) (times_most c (pos 1_000_000) l (le_refl 1_000_000))))

-- the reduction of y, in 0.01 ft
pub reduction-most : (p x : ℕ) (d : ℤ) → p ≤ most_p → x ≤ most_x → nat_abs d ≤ most_d → nat_abs (reduction p x d) ≤ 8_100_100
unfolding reduction
reduction-most p x d h k l =
    rw (size_nearest (pos (p * (x * x)) +ℤ d *ℤ pos 1_000_000_000_000_000) 1_000_000_000_000_000)
    (nearest_size-most (nat_abs (pos (p * (x * x)) +ℤ d *ℤ pos 1_000_000_000_000_000)) 1_000_000_000_000_000 8_100_100 (lit< tt)
    (sum_most (pos (p * (x * x))) (d *ℤ pos 1_000_000_000_000_000) {A = most_p * (most_x * most_x)} {B = most_d * 1_000_000_000_000_000} (product_most most_p (most_x * most_x) h (product_most most_x most_x k k)) (times_most d (pos 1_000_000_000_000_000) l (le_refl 1_000_000_000_000_000))))

-- approximate L, in whole seconds, where H is not below its range
pub approximate_most : (x h : ℕ) → x ≤ most_x → 30_000_000 ≤ h → approximate_l x h ≤ 30_000
unfolding approximate_l
approximate_most x h p q = nearest_size-most (x * 10_000) h 30_000 (omega arith) (omega arith)

-- the size of L, in 0.001″, for any H
pub l_size_most : (x : ℕ) (a b : ℤ) (h : ℕ) → x ≤ most_x → nat_abs a ≤ most_a → nat_abs b ≤ most_b → 0 < h → nat_abs (size_of_l x a b h) ≤ 900_040_000_000_000
unfolding size_of_l
l_size_most x a b h p q k some =
    rw (size_nearest ((pos (x * 10_000) -ℤ a *ℤ b) *ℤ pos 1_000) h)
    (le_trans (nearest_size_le (nat_abs ((pos (x * 10_000) -ℤ a *ℤ b) *ℤ pos 1_000)) h some)
    (times_most (pos (x * 10_000) -ℤ a *ℤ b) (pos 1_000) {A = most_x * 10_000 + most_a * most_b} {B = 1_000} (difference_most (pos (x * 10_000)) (a *ℤ b) {A = most_x * 10_000} {B = most_a * most_b} (omega arith) (times_most a b q k)) (le_refl 1_000)))

-- Δα, in 0.1″
pub convergence-most : (m : ℕ) (x : ℤ) → m ≤ most_m → nat_abs x ≤ most_word → nat_abs (convergence m x) ≤ 21_474_837
unfolding convergence
convergence-most m x p q =
    rw (size_nearest (pos m *ℤ x) 100_000_000)
    (nearest_size-most (nat_abs (pos m *ℤ x)) 100_000_000 21_474_837 (lit< tt) (le_trans (times_most (pos m) x p q) (lit≤ tt)))

-- a difference over 60 seconds, of a change within its bounds, is one that a word holds
pub per_second_most : (scale : ℕ) (change : ℤ) → scale ≤ most_scale → nat_abs change ≤ most_change → nat_abs (per_second scale change) ≤ 16_666_667
unfolding per_second
per_second_most scale change h k =
    rw (size_nearest (pos scale *ℤ change) 60, size_product (pos scale) change)
    (nearest_size-most (scale * nat_abs change) 60 16_666_667 (lit< tt) (le_trans (product_most most_scale most_change h k) (lit≤ tt)))

-- "(no half can occur)": a half of 60 is 30, and a change scaled by 20·k, as by 1000 and by 100, never leaves it over whole sixties
pub no_half : (k change : ℕ) → (20 * (k * change)) % 60 ≡ 30 → ⊥
no_half k change e = omega arith

-- so the difference is the one number d of which 60·d is within 30 of the scaled change: both are twenties, and what lies between them is none, or one
module _ (scale : ℕ) (change : ℤ) (twenties : scale % 20 ≡ 0) where
  abbrev k : ℕ
  k = scale / 20

  scaled : pos scale *ℤ change ≡ (pos k *ℤ change) *ℤ pos 20
  scaled =
      let parts : scale ≡ k * 20 = omega (arith, div-add-mod' scale 20) in
      ap (λ (n : ℕ). pos n *ℤ change) parts ∙ times_assoc (pos k) (pos 20) change ∙ ap (λ (z : ℤ). pos k *ℤ z) (*ℤ_comm (pos 20) change)
      ∙ sym (times_assoc (pos k) change (pos 20))

  between_twenties : (d : ℤ) → nat_abs (d *ℤ pos 60 -ℤ pos scale *ℤ change) ≡ nat_abs (d *ℤ pos 3 -ℤ pos k *ℤ change) * 20
  between_twenties d =
      ap nat_abs (ap (λ (z : ℤ). z -ℤ pos scale *ℤ change) (sym (times_assoc d (pos 3) (pos 20))) ∙ ap (λ (z : ℤ). (d *ℤ pos 3) *ℤ pos 20 -ℤ z) scaled
      ∙ sym (difference_times (d *ℤ pos 3) (pos k *ℤ change) (pos 20)))
      ∙ size_product (d *ℤ pos 3 -ℤ pos k *ℤ change) (pos 20)

  pub per_second_near : (d : ℤ) → nat_abs (d *ℤ pos 60 -ℤ pos scale *ℤ change) ≤ 30 → d ≡ per_second scale change
  unfolding per_second
  per_second_near d near = only-within (pos scale *ℤ change) 60 d (omega (arith, near, between_twenties d))

pub per_second_within : (scale : ℕ) (change : ℤ) → nat_abs (per_second scale change *ℤ pos 60 -ℤ pos scale *ℤ change) ≤ 30
unfolding per_second
per_second_within scale change = omega (arith, nearest-within (pos scale *ℤ change) 60 (lit< tt))
