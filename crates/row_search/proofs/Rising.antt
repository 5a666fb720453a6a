-- A column whose rises are from least to most is a rising one where least is not 0, and row i stands i·least or more above row 0. Assumes nothing.
use mathlib.Core.Path.{◌≡◌, sym, ap, ◌∙◌}
use mathlib.Core.Bool.{true}
use Prim.Native.Nat.{ℕ, zero, suc, ◌+◌, ◌*◌, ◌<◌}
use native.Mathlib.Nat.{zero-mul, suc-mul}
use native.Mathlib.Numerals.{add-one}
use native.Mathlib.Omega.{arith}
use lib.IntN.{ℤ, pos, ◌+ℤ◌, +ℤ_idr, +ℤ_assoc}
use lib.Signed.{le_z}
use Rattle.row_search.specs.Rows.{RisesBy, Rising}
use Rattle.rounding.proofs.Order.{le_z-refl, le_z_trans, lt_z-le_z, le_z_shift, below_height}

-- (a + i·k) + k is a + (i + 1)·k
one_more : (a : ℤ) (i k : ℕ) → a +ℤ pos (suc i * k) ≡ (a +ℤ pos (i * k)) +ℤ pos k
one_more a i k = ap (λ (m : ℕ). a +ℤ pos m) (suc-mul i k) ∙ sym (+ℤ_assoc a (pos (i * k)) (pos k))

none_yet : (a : ℤ) (k : ℕ) → a +ℤ pos (0 * k) ≡ a
none_yet a k = ap (λ (m : ℕ). a +ℤ pos m) (zero-mul k) ∙ +ℤ_idr a

module _ (f : ℕ → ℤ) (n least most : ℕ) (rises : RisesBy f n least most) where
  pub rises-rising : 0 < least → Rising f n
  unfolding RisesBy Rising
  rises-rising h i l = lt_z-le_z (f i) (f i +ℤ pos least) (f (i + 1)) (below_height (f i) h) (rises i l).0

  -- row i stands at least i·least above row 0
  pub rises-least : (i : ℕ) → i < n → le_z (f 0 +ℤ pos (i * least)) (f i) ≡ true
  unfolding RisesBy
  rises-least zero l = rw (none_yet (f 0) least) (le_z-refl (f 0))
  rises-least (suc i) l =
      rw (one_more (f 0) i least, ← add-one i)
      (le_z_trans (f 0 +ℤ pos (i * least) +ℤ pos least) (f i +ℤ pos least) (f (i + 1))
      (le_z_shift (f 0 +ℤ pos (i * least)) (f i) (pos least) ∙ rises-least i (omega arith))
      (rises i (omega arith)).0)
