-- What the rules tell of figures that pass them, in sizes: a figure that may not be negative is its size. Assumes nothing.
use mathlib.Core.Path.{◌≡◌, refl, sym, ap, ◌∙◌, subst}
use mathlib.Core.Bool.{true, ◌&&◌}
use Prim.Native.Nat.{ℕ, suc, ◌+◌, ◌-◌, ◌≤◌}
use native.Mathlib.Nat.{le_trans}
use native.Mathlib.Decide.{dec_le}
use native.Mathlib.Omega.{arith}
use lib.Dec.{T, lit≤}
use lib.IntN.{ℤ, pos, negsuc, neg_ℤ, nat_abs, ◌-ℤ◌}
use lib.Signed.{non_neg}
use borrow.Author.Tests.{leb-true}
use Rattle.rounding.specs.Ranges.{most_change}
use Rattle.rounding.proofs.Sizes.{Size, within_size, pos_minus, sub_ℕ_le, sub_ℕ_lt}
use Rattle.rules.specs.declared.Figures.{Figures}
use Rattle.rules.specs.declared.Differences.{Differences}
use Rattle.std.proofs.Math.Bool.{and_assoc}
use Rattle.std.specs.Ordering.{int_eq}
use Rattle.refusals.specs.Tests.{in_range, same_as}
use Rattle.rules.specs.Limits.{rises}
use Rattle.rules.specs.Latitude.{figures_in_range, least_rise, most_rise, within_bounds, same_differences}
use Rattle.rounding.proofs.Tests.{both}
use Rattle.refusals.proofs.Ranges.{range_true, same_true, eq_same}

-- ---- one figure
pub range_size : (least : ℕ) (x : ℤ) (most : ℕ) → in_range (pos least) x (pos most) ≡ true → Size least x most
range_size least (pos n) most e =
    let r = range_true (pos least) (pos n) (pos most) e in
    record { is = refl; low = leb-true least n r.0; high = leb-true n most r.1 }
range_size least (negsuc n) most e = absurd (subst T (sym (range_true (pos least) (negsuc n) (pos most) e).0) tt)

pub range_most : (m : ℕ) (x : ℤ) → in_range (neg_ℤ (pos m)) x (pos m) ≡ true → nat_abs x ≤ m
range_most m x e = let r = range_true (neg_ℤ (pos m)) x (pos m) e in within_size x m r.0 r.1

-- ---- a figure and the next row's
pub rises-most : (m : ℕ) (x next : ℤ) → rises x next (neg_ℤ (pos m)) (pos m) ≡ true → nat_abs (next -ℤ x) ≤ m
unfolding rises
rises-most m x next e = range_most m (next -ℤ x) e

-- of two sizes, the rise is between them
pub rises_sizes : (least most : ℕ) (x next : ℕ) → rises (pos x) (pos next) (pos least) (pos most) ≡ true → (x + least ≤ next) × (next ≤ x + most)
unfolding rises
rises_sizes least most x next e = pick (dec_le x next) (range_size least (pos next -ℤ pos x) most e)
  where
    pick : Dec (x ≤ next) → Size least (pos next -ℤ pos x) most → (x + least ≤ next) × (next ≤ x + most)
    pick (yes h) r =
        let size : nat_abs (pos next -ℤ pos x) ≡ next - x = ap nat_abs (pos_minus next x ∙ sub_ℕ_le h) in
        (omega (arith, r.low, size), omega (arith, r.high, size))
    pick (no h) r =
        let below : pos next -ℤ pos x ≡ negsuc (x - suc next) = pos_minus next x ∙ sub_ℕ_lt (omega arith) in
        absurd (subst T (sym (ap non_neg (sym below ∙ r.is))) tt)

-- ---- a latitude row's figures
pub record InRange (f : Figures) : Type 0 where
  pub y0 : Size 0 f.y0 999_999_999
  pub h : Size 30_000_000 f.h 102_000_000
  pub v : Size 0 f.v 1_400_000
  pub a : nat_abs f.a ≤ 2_000

pub figures_in_lem : (f : Figures) → figures_in_range f ≡ true → InRange f
unfolding figures_in_range
figures_in_lem f e =
    let p = both _ _ e in
    let q = both _ _ p.0 in
    let r = both _ _ q.0 in
    record { y0 = range_size _ _ _ r.0; h = range_size _ _ _ r.1; v = range_size _ _ _ q.1; a = range_most _ _ p.1 }

-- of two rows in range
pub record Bounded (f next : Figures) : Type 0 where
  pub y0 : (nat_abs f.y0 + least_rise ≤ nat_abs next.y0) × (nat_abs next.y0 ≤ nat_abs f.y0 + most_rise)
  pub h : (nat_abs next.h + 1 ≤ nat_abs f.h) × (nat_abs f.h ≤ nat_abs next.h + 50_000)
  pub v : nat_abs (next.v -ℤ f.v) ≤ 1_000
  pub a : nat_abs (next.a -ℤ f.a) ≤ 10

pub figures_bounded : (f next : Figures) → InRange f → InRange next → within_bounds f next ≡ true → Bounded f next
unfolding within_bounds
figures_bounded f next x y e =
    let p = both _ _ e in
    let q = both _ _ p.0 in
    let r = both _ _ q.0 in
    let up : rises f.y0 next.y0 (pos least_rise) (pos most_rise) ≡ true = r.0 in
    let down : rises next.h f.h (pos 1) (pos 50_000) ≡ true = r.1 in
    record {
      y0 = rises_sizes least_rise most_rise (nat_abs f.y0) (nat_abs next.y0) (rw (← x.y0.is, ← y.y0.is) up);
      h = rises_sizes 1 50_000 (nat_abs next.h) (nat_abs f.h) (rw (← x.h.is, ← y.h.is) down);
      v = rises-most _ _ _ q.1;
      a = rises-most _ _ _ p.1;
    }

-- ---- the derived `==`: of differences, and of figures
pub eq_differences : (e d : Differences) → (int_eq e.y d.y && (int_eq e.h d.h && int_eq e.v d.v)) ≡ same_differences e d
unfolding same_differences
eq_differences e d = rw (eq_same e.y d.y, eq_same e.h d.h, eq_same e.v d.v) (sym (and_assoc (same_as e.y d.y) (same_as e.h d.h) (same_as e.v d.v)))

pub eq_figures : (f g : Figures) → (int_eq f.y0 g.y0 && (int_eq f.h g.h && (int_eq f.v g.v && int_eq f.a g.a))) ≡ (same_as f.y0 g.y0 && same_as f.h g.h && same_as f.v g.v && same_as f.a g.a)
eq_figures f g =
    rw (eq_same f.y0 g.y0, eq_same f.h g.h, eq_same f.v g.v, eq_same f.a g.a)
    (sym (and_assoc (same_as f.y0 g.y0 && same_as f.h g.h) (same_as f.v g.v) (same_as f.a g.a)
    ∙ and_assoc (same_as f.y0 g.y0) (same_as f.h g.h) (same_as f.v g.v && same_as f.a g.a)))

-- ---- its differences
pub differences_are : (e d : Differences) → same_differences e d ≡ true → e ≡ d
unfolding same_differences
differences_are e d h =
    let p = both _ _ h in
    let q = both _ _ p.0 in
    let y : e.y ≡ d.y = same_true e.y d.y q.0 in
    let h : e.h ≡ d.h = same_true e.h d.h q.1 in
    let v : e.v ≡ d.v = same_true e.v d.v p.1 in
    let same : ◌≡◌ {A = Differences} (record { y = e.y; h = e.h; v = e.v }) (record { y = d.y; h = d.h; v = d.v }) = rw (y, h, v) in
    same

-- ---- the changes whose differences are worked are small
pub record Changes (f next : Figures) : Type 0 where
  pub y0 : nat_abs (next.y0 -ℤ f.y0) ≤ most_change
  pub h : nat_abs (f.h -ℤ next.h) ≤ most_change
  pub v : nat_abs (next.v -ℤ f.v) ≤ most_change

pub changes : (f next : Figures) → within_bounds f next ≡ true → Changes f next
unfolding within_bounds rises
changes f next e =
    let p = both _ _ e in
    let q = both _ _ p.0 in
    let r = both _ _ q.0 in
    record {
      y0 = le_trans (range_size least_rise (next.y0 -ℤ f.y0) most_rise r.0).high (lit≤ tt);
      h = le_trans (range_size 1 (f.h -ℤ next.h) 50_000 r.1).high (lit≤ tt);
      v = le_trans (range_most 1_000 (next.v -ℤ f.v) q.1) (lit≤ tt);
    }
