-- The last row's distance from row 0 is a small number, and what lies within the rows is a size up to it. Assumes nothing.
use mathlib.Core.Path.{◌≡◌, refl, sym, ap, subst}
use mathlib.Core.Bool.{true}
use Prim.Native.Nat.{ℕ, ◌-◌, ◌*◌, ◌≤◌, zero-le}
use native.Mathlib.Omega.{arith}
use borrow.Author.Tests.{leb-true}
use lib.Dec.{T}
use lib.IntN.{ℤ, pos, negsuc, nat_abs}
use lib.Signed.{le_z, non_neg}
use mir.Syntax.{w64}
use mir.Val.{Fits, SFits, to_z}
use Rattle.rounding.specs.Ranges.{most_count, most_step}
use Rattle.rounding.proofs.Sizes.{Size, product_most}
use Rattle.rounding.proofs.Tests.{both}
use Rattle.rounding.proofs.Holds.{held_size}
use Rattle.reading.specs.Tables.{within_rows}

module _ (rows step : ℕ) (h : rows ≤ most_count) (l : step ≤ most_step) where
  pub span_most : (rows - 1) * step ≤ 1_000_000_000_000
  span_most = product_most most_count most_step (omega arith) l

  pub span_fits : Fits w64 ((rows - 1) * step)
  span_fits = record { fits = omega (arith, span_most) }

  pub span_bits : to_z w64 ((rows - 1) * step) ≡ pos ((rows - 1) * step)
  span_bits = (held_size w64 span_most tt).is

  pub span_signed : SFits w64 (pos ((rows - 1) * step))
  span_signed = record { sfits = omega (arith, span_most) }

-- ---- what the test shows
non_neg-from : (z : ℤ) → le_z (pos 0) z ≡ true → z ≡ pos (nat_abs z)
non_neg-from (pos n) e = refl
non_neg-from (negsuc n) e = absurd (subst T (sym e) tt)

size_most : (z : ℤ) (k : ℕ) → z ≡ pos (nat_abs z) → le_z z (pos k) ≡ true → nat_abs z ≤ k
size_most (pos n) k e h = leb-true n k h
size_most (negsuc n) k e h = absurd (subst T (sym (ap non_neg e)) tt)

pub within_rows_size : (rows step : ℕ) (z : ℤ) → within_rows rows step z ≡ true → Size 0 z ((rows - 1) * step)
unfolding within_rows
within_rows_size rows step z e =
    let p = both _ _ e in
    let is = non_neg-from z p.0 in
    record { is = is; low = zero-le; high = size_most z ((rows - 1) * step) is p.1 }
