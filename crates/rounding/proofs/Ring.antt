-- The ring laws of ℤ that the kit's library lacks: the product distributes over sums and differences, and is associative.
-- Assumes nothing.
use mathlib.Core.Path.{◌≡◌, refl, sym, ap, ◌∙◌}
use Prim.Native.Nat.{zero, suc, ◌*◌}
use lib.IntN.{ℤ, pos, negsuc, neg_ℤ, suc_ℤ, pred_ℤ, ◌+ℤ◌, ◌-ℤ◌, ◌*ℤ◌, +ℤ_idl, +ℤ_assoc, +ℤ_comm, suc_ℤ-+ℤ, pred_ℤ-+ℤ, zero-*ℤ, suc_ℤ-*ℤ, pred_ℤ-*ℤ, *ℤ_comm, neg_ℤ-neg_ℤ}

-- the last two terms of a sum change places
pub swap_last : (a b c : ℤ) → (a +ℤ b) +ℤ c ≡ (a +ℤ c) +ℤ b
swap_last a b c = +ℤ_assoc a b c ∙ ap (λ (z : ℤ). a +ℤ z) (+ℤ_comm b c) ∙ sym (+ℤ_assoc a c b)

-- a property of 0 that goes up and down by one is a property of every integer
pub by_steps : (P : ℤ → Type 0) → P (pos zero) → ((z : ℤ) → P z → P (suc_ℤ z)) → ((z : ℤ) → P z → P (pred_ℤ z)) → (z : ℤ) → P z
by_steps P base up down (pos zero) = base
by_steps P base up down (pos (suc n)) = up (pos n) (by_steps P base up down (pos n))
by_steps P base up down (negsuc zero) = down (pos zero) base
by_steps P base up down (negsuc (suc n)) = down (negsuc n) (by_steps P base up down (negsuc n))

-- (a + b)c = ac + bc
pub sum_times : (a b c : ℤ) → (a +ℤ b) *ℤ c ≡ a *ℤ c +ℤ b *ℤ c
sum_times a b c = by_steps (λ (z : ℤ). (z +ℤ b) *ℤ c ≡ z *ℤ c +ℤ b *ℤ c) base up down a
  where
    base : (pos zero +ℤ b) *ℤ c ≡ pos zero *ℤ c +ℤ b *ℤ c
    base = ap (λ (z : ℤ). z *ℤ c) (+ℤ_idl b) ∙ sym (ap (λ (z : ℤ). z +ℤ b *ℤ c) (zero-*ℤ c) ∙ +ℤ_idl (b *ℤ c))

    up : (z : ℤ) → (z +ℤ b) *ℤ c ≡ z *ℤ c +ℤ b *ℤ c → (suc_ℤ z +ℤ b) *ℤ c ≡ suc_ℤ z *ℤ c +ℤ b *ℤ c
    up z h =
        ap (λ (y : ℤ). y *ℤ c) (suc_ℤ-+ℤ z b) ∙ suc_ℤ-*ℤ (z +ℤ b) c ∙ ap (λ (y : ℤ). y +ℤ c) h
        ∙ swap_last (z *ℤ c) (b *ℤ c) c ∙ ap (λ (y : ℤ). y +ℤ b *ℤ c) (sym (suc_ℤ-*ℤ z c))

    down : (z : ℤ) → (z +ℤ b) *ℤ c ≡ z *ℤ c +ℤ b *ℤ c → (pred_ℤ z +ℤ b) *ℤ c ≡ pred_ℤ z *ℤ c +ℤ b *ℤ c
    down z h =
        ap (λ (y : ℤ). y *ℤ c) (pred_ℤ-+ℤ z b) ∙ pred_ℤ-*ℤ (z +ℤ b) c ∙ ap (λ (y : ℤ). y -ℤ c) h
        ∙ swap_last (z *ℤ c) (b *ℤ c) (neg_ℤ c) ∙ ap (λ (y : ℤ). y +ℤ b *ℤ c) (sym (pred_ℤ-*ℤ z c))

-- (−a)b = −(ab)
pub minus_times : (a b : ℤ) → neg_ℤ a *ℤ b ≡ neg_ℤ (a *ℤ b)
minus_times (pos zero) b = zero-*ℤ b ∙ sym (ap neg_ℤ (zero-*ℤ b))
minus_times (pos (suc n)) (pos m) = refl
minus_times (pos (suc n)) (negsuc m) = sym (neg_ℤ-neg_ℤ (pos (suc n * suc m)))
minus_times (negsuc n) (pos m) = sym (neg_ℤ-neg_ℤ (pos (suc n * m)))
minus_times (negsuc n) (negsuc m) = refl

-- (a − b)c = ac − bc
pub difference_times : (a b c : ℤ) → (a -ℤ b) *ℤ c ≡ a *ℤ c -ℤ b *ℤ c
difference_times a b c = sum_times a (neg_ℤ b) c ∙ ap (λ (z : ℤ). a *ℤ c +ℤ z) (minus_times b c)

-- c(a + b) = ca + cb
pub times_sum : (c a b : ℤ) → c *ℤ (a +ℤ b) ≡ c *ℤ a +ℤ c *ℤ b
times_sum c a b =
    *ℤ_comm c (a +ℤ b) ∙ sum_times a b c ∙ ap (λ (z : ℤ). z +ℤ b *ℤ c) (*ℤ_comm a c) ∙ ap (λ (z : ℤ). c *ℤ a +ℤ z) (*ℤ_comm b c)

-- (ab)c = a(bc)
pub times_assoc : (a b c : ℤ) → (a *ℤ b) *ℤ c ≡ a *ℤ (b *ℤ c)
times_assoc a b c = by_steps (λ (z : ℤ). (z *ℤ b) *ℤ c ≡ z *ℤ (b *ℤ c)) base up down a
  where
    base : (pos zero *ℤ b) *ℤ c ≡ pos zero *ℤ (b *ℤ c)
    base = ap (λ (z : ℤ). z *ℤ c) (zero-*ℤ b) ∙ zero-*ℤ c ∙ sym (zero-*ℤ (b *ℤ c))

    up : (z : ℤ) → (z *ℤ b) *ℤ c ≡ z *ℤ (b *ℤ c) → (suc_ℤ z *ℤ b) *ℤ c ≡ suc_ℤ z *ℤ (b *ℤ c)
    up z h =
        ap (λ (y : ℤ). y *ℤ c) (suc_ℤ-*ℤ z b) ∙ sum_times (z *ℤ b) b c ∙ ap (λ (y : ℤ). y +ℤ b *ℤ c) h ∙ sym (suc_ℤ-*ℤ z (b *ℤ c))

    down : (z : ℤ) → (z *ℤ b) *ℤ c ≡ z *ℤ (b *ℤ c) → (pred_ℤ z *ℤ b) *ℤ c ≡ pred_ℤ z *ℤ (b *ℤ c)
    down z h =
        ap (λ (y : ℤ). y *ℤ c) (pred_ℤ-*ℤ z b) ∙ difference_times (z *ℤ b) b c ∙ ap (λ (y : ℤ). y -ℤ b *ℤ c) h ∙ sym (pred_ℤ-*ℤ z (b *ℤ c))
