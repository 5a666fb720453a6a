-- Plane to geographic on a sheet that passes: approximate L, the size of L, which is not negative, and the point, which fits 32 bits. Assumes nothing.
use mathlib.Core.Path.{◌≡◌, refl, ◌∙◌}
use mathlib.Core.Bool.{Bool, true, ◌||◌}
use mathlib.Core.List.{List}
use Prim.Native.Nat.{ℕ, zero, suc, ◌*◌, ◌≤◌}
use native.Mathlib.Nat.{le_trans, mul-le-mul_left}
use native.Mathlib.Omega.{arith}
use lib.Dec.{T, lit≤}
use lib.IntN.{ℤ, pos, neg_ℤ, nat_abs, ◌+ℤ◌, ◌-ℤ◌, ◌*ℤ◌}
use lib.Signed.{non_neg}
use Rattle.rounding.specs.Ranges.{most_a, most_x}
use Rattle.rounding.specs.declared.Rounded.{Rounded}
use Rattle.steps.specs.Steps.{approximate_l, approximate_l_half, reduction}
use Rattle.rounding.proofs.Sizes.{Size, size_from, sum_non_neg, size_minus, size_product, product_most}
use Rattle.rounding.proofs.Rounding.{IsNearest, is_nearest}
use Rattle.steps.proofs.StepBounds.{reduction-most, approximate_most, l_size_most}
use Rattle.entries.specs.Layout.{latitude, northing, easting}
use Rattle.entries.specs.Entries.{Within}
use Rattle.sheet_check.specs.Check.{check_of}
use Rattle.tables.specs.Figures.{first_latitude_of, h_at, h_half, a_at, a_half, b_at, b_half, p_at, p_half, d_at, d_half}
use Rattle.tables.proofs.Ranges.{h_least, a_most, b_between, b_slope, p_between, d_between}
use Rattle.extent.specs.Extent.{size_known}
use Rattle.extent.proofs.Reach.{easting_span, size_within}
use Rattle.inverse.specs.declared.ForReduction.{ForReduction}
use Rattle.inverse.specs.declared.Taken.{Taken}
use Rattle.inverse.specs.Inverse.{geographic, reduced_northing, reduced_half, approximate_of, size_of, size_half, longitude_of, geographic_at, for_reduction, reduced_by, reduced_by_half, taken_at, approximate_by, size_by, size_by_half}

-- ---- reading and working are the whole
pub reduced_halves : (s : List ℕ) (x : ℕ) (y : ℤ) → reduced_by (for_reduction s x y) x y ≡ reduced_northing s x y
unfolding reduced_by for_reduction reduced_northing
reduced_halves s x y = refl

pub reduced_half_halves : (s : List ℕ) (x : ℕ) (y : ℤ) → reduced_by_half (for_reduction s x y) x ≡ reduced_half s x y
unfolding reduced_by_half for_reduction reduced_half
reduced_half_halves s x y = refl

-- h is H at t from row 0, and m is the size of x'
module _ (s : List ℕ) (x t : ℕ) {h m : ℕ} (r : h ≡ h_at s t) (g : m ≡ x) where
  pub approximate_halves : approximate_by h m ≡ approximate_of s x t
  unfolding approximate_by approximate_of
  approximate_halves = rw (r, g)

  pub approximate_half_halves : approximate_l_half m h ≡ approximate_l_half x (h_at s t)
  approximate_half_halves = rw (r, g)

-- f are the figures there
module _ (s : List ℕ) (x t : ℕ) (f : Taken) {m : ℕ} (r : f ≡ taken_at s t) (g : m ≡ x) where
  -- b is read at approximate L, n
  module _ {n : ℕ} (e : n ≡ approximate_of s x t) (b : Rounded ℤ) (k : b.value ≡ b_at s n) where
    pub size_halves : size_by f b.value m ≡ size_of s x t
    unfolding size_by taken_at size_of
    size_halves = rw (r, g, k, e)

    pub size_half_halves : {met : Bool} → met ≡ approximate_l_half x (h_at s t) → b.half ≡ b_half s n → size_by_half f b m met ≡ size_half s x t
    unfolding size_by_half taken_at size_half
    size_half_halves h l = rw (r, g, h, l, k, e)

-- ---- the figures, as they were read
pub reduction-taken : (s : List ℕ) (x : ℕ) (y : ℤ) (f : ForReduction) {n m : ℕ} → n ≡ nat_abs y → m ≡ x → f.p.value ≡ p_at s n → f.p.half ≡ p_half s n → f.d.value ≡ d_at s m → f.d.half ≡ d_half s m
    → f ≡ for_reduction s x y
unfolding for_reduction
reduction-taken s x y f e g p p' d d' = rw (← e, ← g, ← p, ← p', ← d, ← d')

pub taken_is : (s : List ℕ) (t : ℕ) (f : Taken) → f.h.value ≡ h_at s t → f.h.half ≡ h_half s t → f.a.value ≡ a_at s t → f.a.half ≡ a_half s t → f ≡ taken_at s t
unfolding taken_at
taken_is s t f h h' a a' = rw (← h, ← h', ← a, ← a')

pub geographic-worked : (s : List ℕ) (xp : ℤ) (t : ℕ) (met : Bool) {north north' west west' : ℤ} {half : Bool}
    → north' ≡ north → north ≡ first_latitude_of s +ℤ pos t → west' ≡ west → west ≡ longitude_of s xp t → half ≡ size_half s (nat_abs xp) t
    → geographic 0 north' west' (met || half) ≡ geographic_at s xp t met
unfolding geographic_at
geographic-worked s xp t met e f g k m = rw (e ∙ f, g ∙ k, m)

-- ---- sizes: n is approximate L in whole seconds, for H of at least 30 and |x'| in 0.01 ft
approximate_low : (x h n : ℕ) → 30_000_000 ≤ h → IsNearest (x * 10_000) h n → 1_500 * n ≤ x
approximate_low x h zero l near = omega arith
approximate_low x h (suc n) l near = omega (arith, near.low, mul-le-mul_left (suc n) l)

-- ---- at a place within the tables
pub reduction-small : (s : List ℕ) → (check_of s).number ≡ 0 → (x y : ℕ) → Within s easting x → Within s northing y
    → nat_abs (reduction (p_at s y) x (d_at s x)) ≤ 8_100_100
unfolding p_at
reduction-small s z x y hx hy =
    reduction-most (p_at s y) x (d_at s x) (p_between s z y hy).high (le_trans hx.most (le_trans (easting_span s z) (lit≤ tt))) (d_between s z x hx)

module _ (s : List ℕ) (z : (check_of s).number ≡ 0) (x t : ℕ) (hx : Within s easting x) (ht : Within s latitude t) where
  pub x_small : x ≤ most_x
  x_small = le_trans hx.most (le_trans (easting_span s z) (lit≤ tt))

  pub approximate_small : approximate_of s x t ≤ 30_000_000
  unfolding approximate_of
  approximate_small = omega (arith, approximate_most x (h_at s t) x_small (h_least s z t ht))

  -- |x'| − a·b is not negative
  pub l_not_negative : size_known s (pos (approximate_of s x t)) ≡ true → T (non_neg (pos (x * 10_000) -ℤ a_at s t *ℤ b_at s (approximate_of s x t)))
  unfolding approximate_of approximate_l
  l_not_negative known =
      let size = approximate_of s x t in
      let b = b_slope s z size (size_within s (pos size) known) in
      let near = is_nearest (x * 10_000) (h_at s t) (omega (arith, h_least s z t ht)) in
      let low = approximate_low x (h_at s t) (approximate_l x (h_at s t)) (h_least s z t ht) near in
      sum_non_neg (x * 10_000) (neg_ℤ (a_at s t *ℤ b_at s size))
      (rw (size_minus (a_at s t *ℤ b_at s size), size_product (a_at s t) (b_at s size)) (omega (arith, low, product_most most_a size (a_most s z t ht) b)))

  module _ (known : size_known s (pos (approximate_of s x t)) ≡ true) where
    -- the same of the figures as they were read, at n
    pub l_asked : (f : Taken) {n m : ℕ} {b : ℤ} → f ≡ taken_at s t → m ≡ x → n ≡ approximate_of s x t → b ≡ b_at s n → T (non_neg (pos (m * 10_000) -ℤ f.a.value *ℤ b))
    unfolding taken_at
    l_asked f r g e k = rw (r, g, k, e) (l_not_negative known)

    -- r is the size of L as a size
    pub l_between : {r : ℕ} → pos r ≡ size_of s x t → Size 0 (size_of s x t) 900_040_000_000_000
    unfolding size_of
    l_between e =
        let approximate = approximate_of s x t in
        size_from e (l_size_most x (a_at s t) (b_at s approximate) (h_at s t) x_small (a_most s z t ht) (b_between s z approximate (size_within s (pos approximate) known)) (omega (arith, h_least s z t ht)))
