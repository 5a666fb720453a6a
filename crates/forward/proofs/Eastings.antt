-- Geographic to plane on a sheet that passes: the size of x' is not negative, and x and y fit 32 bits. Assumes nothing.
use mathlib.Core.Path.{◌≡◌, refl, ap, ◌∙◌}
use mathlib.Core.List.{List}
use Prim.Native.Nat.{ℕ, ◌*◌, ◌≤◌}
use native.Mathlib.Nat.{le_trans, mul-le-mul_right}
use native.Mathlib.Omega.{arith}
use lib.Dec.{T}
use lib.IntN.{ℤ, pos, nat_abs, ◌+ℤ◌, ◌*ℤ◌}
use lib.Signed.{non_neg}
use Rattle.rounding.specs.Nearest.{with_sign}
use Rattle.rounding.specs.Ranges.{most_h, most_v, most_a, most_b, most_s}
use Rattle.steps.specs.Steps.{q_of, size_of_x, rise}
use Rattle.rounding.proofs.Sizes.{Size, size_from, sum_non_neg, size_product, size_with_sign, sum_most, product_most}
use Rattle.steps.proofs.StepBounds.{q_most, x_size_most, rise-most}
use Rattle.entries.specs.Layout.{latitude, longitude}
use Rattle.entries.specs.Entries.{Within}
use Rattle.sheet_check.specs.Check.{check_of}
use Rattle.tables.specs.Figures.{false_easting_of, y0_at, y0_half, h_at, h_half, v_at, v_half, a_at, a_half, b_at, b_half, c_at, c_half}
use Rattle.tables.proofs.Ranges.{easting_size, y0_between, h_between, h_least, v_between, a_most, b_between, b_slope, c_between}
use Rattle.extent.specs.Extent.{from_first, l_of}
use Rattle.extent.proofs.Reach.{longitude_span}
use Rattle.forward.specs.declared.Longitude.{Longitude}
use Rattle.forward.specs.declared.Taken.{Taken}
use Rattle.forward.specs.Forward.{x_size, x_of, x_half, y_of, y_half, plane_from, plane_at, longitude_at, taken_at, worked_x, worked_x_half, worked_y, worked_y_half, worked_of, Workable}

-- ---- the two halves are the whole
pub taken-worked : (s : List ℕ) (t : ℕ) (l : ℤ) → worked_of (taken_at s t (nat_abs l)) (false_easting_of s) l ≡ plane_from s t l
unfolding worked_of taken_at longitude_at worked_x worked_y worked_x_half worked_y_half plane_from x_of y_of x_half y_half x_size
taken-worked s t l = refl

-- of a point: f are the figures at t from row 0 and at n, and l and e have the bits of L and C
pub plane-worked : (s : List ℕ) (north west : ℤ) {f : Taken} {e l : ℤ} {t n : ℕ} → f ≡ taken_at s t n → t ≡ nat_abs (from_first s north) → n ≡ nat_abs l → e ≡ false_easting_of s → l ≡ l_of s west
    → worked_of f e l ≡ plane_at s north west
unfolding plane_at
plane-worked s north west p q r g h = rw (p, q, r, g, h) (taken-worked s (nat_abs (from_first s north)) (l_of s west))

-- the figures, as they were read: n is the size of L
pub longitude_is : (s : List ℕ) (size : ℕ) (f : Longitude) {n : ℕ} → n ≡ size → f.b.value ≡ b_at s n → f.b.half ≡ b_half s n → f.c.value ≡ c_at s n → f.c.half ≡ c_half s n → f ≡ longitude_at s size
unfolding longitude_at
longitude_is s size f e b b' c c' = rw (← e, ← b, ← b', ← c, ← c')

pub taken_is : (s : List ℕ) (t size : ℕ) (f : Taken) → f.y0.value ≡ y0_at s t → f.y0.half ≡ y0_half s t → f.h.value ≡ h_at s t → f.h.half ≡ h_half s t
    → f.v.value ≡ v_at s t → f.v.half ≡ v_half s t → f.a.value ≡ a_at s t → f.a.half ≡ a_half s t → {read : Longitude} → read ≡ longitude_at s size → f.b ≡ read.b → f.c ≡ read.c → f ≡ taken_at s t size
unfolding taken_at
taken_is s t size f y0 y0' h h' v v' a a' e b c = rw (← e, ← b, ← c, ← y0, ← y0', ← h, ← h', ← v, ← v', ← a, ← a')

-- ---- the work, of figures that may be worked
module _ (f : Taken) (easting l : ℤ) (ok : Workable f easting l) where
  pub size_most : nat_abs (size_of_x f.h.value (nat_abs l) f.a.value f.b.value) ≤ 61_204_000
  size_most = x_size_most f.h.value (nat_abs l) f.a.value f.b.value ok.h_most ok.l_most ok.a_most ok.b_most

  -- what the step asks; n is the size of L, and a and b have the bits of f's
  pub x_asks : {n : ℕ} {a b : ℤ} → n ≡ nat_abs l → a ≡ f.a.value → b ≡ f.b.value
      → (f.h.value ≤ most_h) × (n ≤ most_s) × (nat_abs a ≤ most_a) × (nat_abs b ≤ most_b) × T (non_neg (pos (f.h.value * n) +ℤ a *ℤ b *ℤ pos 1_000))
  x_asks e p q = rw (e, p, q) (ok.h_most, ok.l_most, ok.a_most, ok.b_most, ok.not_negative)

-- ---- at a place within the tables
module _ (s : List ℕ) (z : (check_of s).number ≡ 0) (t : ℕ) (ht : Within s latitude t) where
  pub h_most : h_at s t ≤ most_h
  unfolding h_at
  h_most = (h_between s z t ht).high

  v_most : v_at s t ≤ most_v
  unfolding v_at
  v_most = (v_between s z t ht).high

  module _ (size : ℕ) (hl : Within s longitude size) where
    pub s_most : size ≤ most_s
    s_most = le_trans hl.most (longitude_span s z)

    pub x_size_lem : nat_abs (x_size s t size) ≤ 61_204_000
    unfolding x_size
    x_size_lem = x_size_most (h_at s t) size (a_at s t) (b_at s size) h_most s_most (a_most s z t ht) (b_between s z size hl)

    -- r is the size of x' as a size
    pub x_between : {r : ℕ} → pos r ≡ x_size s t size → Size 0 (x_size s t size) 61_204_000
    x_between e = size_from e x_size_lem

    pub y_rise : nat_abs (rise (v_at s t) (q_of size) (c_at s size)) ≤ 504_200
    y_rise = rise-most (v_at s t) (q_of size) (c_at s size) v_most (q_most size s_most) (c_between s z size hl)

    -- H·s + a·b is not negative
    pub x_not_negative : T (non_neg (pos (h_at s t * size) +ℤ a_at s t *ℤ b_at s size *ℤ pos 1_000))
    x_not_negative =
        let ab : nat_abs (a_at s t *ℤ b_at s size *ℤ pos 1_000) ≡ nat_abs (a_at s t) * nat_abs (b_at s size) * 1_000 =
        size_product (a_at s t *ℤ b_at s size) (pos 1_000) ∙ ap (λ (n : ℕ). n * 1_000) (size_product (a_at s t) (b_at s size)) in
        sum_non_neg (h_at s t * size) (a_at s t *ℤ b_at s size *ℤ pos 1_000)
        (omega (arith, ab, product_most most_a size (a_most s z t ht) (b_slope s z size hl), mul-le-mul_right size (h_least s z t ht)))

    -- y fits 32 bits
    pub y_most : nat_abs (y_of s t size) ≤ 1_000_504_199
    unfolding y_of
    y_most = sum_most (y0_at s t) (rise (v_at s t) (q_of size) (c_at s size)) {A = 999_999_999} {B = 504_200} (y0_between s z t ht).high y_rise

  -- x fits 32 bits
  pub x_most : (l : ℤ) → Within s longitude (nat_abs l) → nat_abs (x_of s t l) ≤ 161_204_000
  unfolding x_of
  x_most l hl =
      sum_most (with_sign l (x_size s t (nat_abs l))) (false_easting_of s) {A = 61_204_000} {B = 100_000_000}
      (rw (size_with_sign l (x_size s t (nat_abs l))) (x_size_lem (nat_abs l) hl))
      (easting_size s z).high

  -- what was read may be worked
  pub taken-workable : (l : ℤ) → Within s longitude (nat_abs l) → Workable (taken_at s t (nat_abs l)) (false_easting_of s) l
  unfolding taken_at longitude_at
  taken-workable l hl = record {
    h_most = h_most;
    v_most = v_most;
    a_most = a_most s z t ht;
    b_most = b_between s z (nat_abs l) hl;
    c_most = c_between s z (nat_abs l) hl;
    y0_most = (y0_between s z t ht).high;
    easting-most = (easting_size s z).high;
    l_most = s_most (nat_abs l) hl;
    not_negative = x_not_negative (nat_abs l) hl;
  }

  -- as the code has it: k and e have the bits of L and C
  pub workable-as_read : (l : ℤ) → Within s longitude (nat_abs l) → {f : Taken} {e k : ℤ} {d n : ℕ} → f ≡ taken_at s d n → d ≡ t → n ≡ nat_abs k → e ≡ false_easting_of s → k ≡ l → Workable f e k
  workable-as_read l hl p q r g h = rw (p, q, r, g, h) (taken-workable l hl)
