-- Two sheets that differ in the figures of latitude row r alone: every figure that a conversion reads elsewhere is the same in both. Assumes nothing.
use mathlib.Core.Path.{◌≡◌, ap, ◌∙◌}
use mathlib.Core.List.{List}
use mathlib.Core.Logic.{◌⊎◌, inl, inr}
use Prim.Native.Nat.{ℕ, ◌+◌, ◌-◌, ◌*◌, ◌<◌, ◌≤◌}
use native.Mathlib.Omega.{arith}
use lib.Dec.{lit<, lit≤}
use lib.IntN.{ℤ, pos, nat_abs, ◌-ℤ◌, ◌*ℤ◌}
use Rattle.entries.specs.Layout.{last_kind, zone, latitude, longitude, northing, easting, scale, width_of, one_minute}
use Rattle.entries.specs.Entries.{rows_of, body_of, step_of}
use Rattle.reading.specs.Tables.{column, value_at, value_half, within_rows}
use Rattle.reading.proofs.Local.{value_below, value_above, half_below, half_above}
use Rattle.tables.specs.Figures.{figure_of, figure_at, central_meridian_of, false_easting_of, first_latitude_of, y0_of, figure_half, y0_at, y0_half, h_at, h_half, v_at, v_half, a_at, a_half, b_at, b_half, c_at, c_half, p_at, p_half, m_at, m_half, d_at, d_half, k_at, k_half}
use Rattle.extent.specs.Extent.{from_first, latitude_known, l_of, size_known, longitude_known, x_prime, easting_known, scale_known, northing_known}

pub record Beside (s t : List ℕ) (r : ℕ) : Type 0 where
  pub rows : (kind : ℕ) → 1 ≤ kind → kind ≤ last_kind → rows_of t kind ≡ rows_of s kind
  pub steps : (kind : ℕ) → 1 ≤ kind → kind ≤ last_kind → step_of t kind ≡ step_of s kind
  pub bodies : (kind : ℕ) → 1 ≤ kind → kind ≤ last_kind → (kind ≡ latitude → ⊥) → body_of t kind ≡ body_of s kind
  pub minute : figure_of t latitude 0 0 ≡ figure_of s latitude 0 0
  pub y0 : (i : ℕ) → (i ≡ r → ⊥) → figure_of t latitude 1 i ≡ figure_of s latitude 1 i
  pub h : (i : ℕ) → (i ≡ r → ⊥) → figure_of t latitude 3 i ≡ figure_of s latitude 3 i
  pub v : (i : ℕ) → (i ≡ r → ⊥) → figure_of t latitude 5 i ≡ figure_of s latitude 5 i
  pub a : (i : ℕ) → (i ≡ r → ⊥) → figure_of t latitude 7 i ≡ figure_of s latitude 7 i

-- A latitude's distance d from row 0 is at or below the row before r, or at or above the row after it.
abbrev pub Outside : ℕ → ℕ → Type 0
Outside r d = ((0 < r) × (d ≤ (r - 1) * one_minute)) ⊎ ((r + 1) * one_minute ≤ d)

module _ (s t : List ℕ) (r : ℕ) (same : Beside s t r) where
  -- ---- the figures of a body that stays
  module _ (kind : ℕ) (l : 1 ≤ kind) (h : kind ≤ last_kind) (other : kind ≡ latitude → ⊥) where
    figure_same : (number i : ℕ) → figure_of t kind number i ≡ figure_of s kind number i
    figure_same number i = ap (λ (b : List ℕ). column b (width_of kind) number i) (same.bodies kind l h other)

    read_same : (number offset : ℕ) → figure_at t kind number offset ≡ figure_at s kind number offset
    read_same number offset =
        ap (λ (b : List ℕ). value_at (column b (width_of kind) number) (step_of t kind) offset) (same.bodies kind l h other)
        ∙ ap (λ (n : ℕ). value_at (figure_of s kind number) n offset) (same.steps kind l h)

    half-same : (number offset : ℕ) → figure_half t kind number offset ≡ figure_half s kind number offset
    half-same number offset =
        ap (λ (b : List ℕ). value_half (column b (width_of kind) number) (step_of t kind) offset) (same.bodies kind l h other)
        ∙ ap (λ (n : ℕ). value_half (figure_of s kind number) n offset) (same.steps kind l h)

    within_same : (x : ℤ) → within_rows (rows_of t kind) (step_of t kind) x ≡ within_rows (rows_of s kind) (step_of s kind) x
    within_same x = rw (same.rows kind l h, same.steps kind l h)

  pub latitude_rows : rows_of t latitude ≡ rows_of s latitude
  latitude_rows = same.rows latitude (lit≤ tt) (lit≤ tt)

  pub central_same : central_meridian_of t ≡ central_meridian_of s
  unfolding central_meridian_of
  central_same = figure_same zone (lit≤ tt) (lit≤ tt) (λ e. omega arith) 0 0

  pub false_same : false_easting_of t ≡ false_easting_of s
  unfolding false_easting_of
  false_same = figure_same zone (lit≤ tt) (lit≤ tt) (λ e. omega arith) 1 0

  pub b_same : (size : ℕ) → b_at t size ≡ b_at s size
  unfolding b_at
  b_same size = read_same longitude (lit≤ tt) (lit≤ tt) (λ e. omega arith) 0 size

  pub c_same : (size : ℕ) → c_at t size ≡ c_at s size
  unfolding c_at
  c_same size = read_same longitude (lit≤ tt) (lit≤ tt) (λ e. omega arith) 1 size

  pub p_same : (y : ℕ) → p_at t y ≡ p_at s y
  unfolding p_at
  p_same y = ap nat_abs (read_same northing (lit≤ tt) (lit≤ tt) (λ e. omega arith) 0 y)

  pub m_same : (y : ℕ) → m_at t y ≡ m_at s y
  unfolding m_at
  m_same y = ap nat_abs (read_same northing (lit≤ tt) (lit≤ tt) (λ e. omega arith) 1 y)

  pub d_same : (size : ℕ) → d_at t size ≡ d_at s size
  unfolding d_at
  d_same size = read_same easting (lit≤ tt) (lit≤ tt) (λ e. omega arith) 0 size

  pub k_same : (size : ℕ) → k_at t size ≡ k_at s size
  unfolding k_at
  k_same size = read_same scale (lit≤ tt) (lit≤ tt) (λ e. omega arith) 0 size

  -- ---- and their halves
  pub b_half-same : (size : ℕ) → b_half t size ≡ b_half s size
  unfolding b_half
  b_half-same size = half-same longitude (lit≤ tt) (lit≤ tt) (λ e. omega arith) 0 size

  pub c_half-same : (size : ℕ) → c_half t size ≡ c_half s size
  unfolding c_half
  c_half-same size = half-same longitude (lit≤ tt) (lit≤ tt) (λ e. omega arith) 1 size

  pub p_half-same : (y : ℕ) → p_half t y ≡ p_half s y
  unfolding p_half
  p_half-same y = half-same northing (lit≤ tt) (lit≤ tt) (λ e. omega arith) 0 y

  pub m_half-same : (y : ℕ) → m_half t y ≡ m_half s y
  unfolding m_half
  m_half-same y = half-same northing (lit≤ tt) (lit≤ tt) (λ e. omega arith) 1 y

  pub d_half-same : (size : ℕ) → d_half t size ≡ d_half s size
  unfolding d_half
  d_half-same size = half-same easting (lit≤ tt) (lit≤ tt) (λ e. omega arith) 0 size

  pub k_half-same : (size : ℕ) → k_half t size ≡ k_half s size
  unfolding k_half
  k_half-same size = half-same scale (lit≤ tt) (lit≤ tt) (λ e. omega arith) 0 size

  -- ---- where a point stands
  pub first_same : first_latitude_of t ≡ first_latitude_of s
  unfolding first_latitude_of
  first_same = ap (λ (m : ℤ). m *ℤ pos one_minute) same.minute

  pub from_first_same : (north : ℤ) → from_first t north ≡ from_first s north
  unfolding from_first
  from_first_same north = ap (λ (m : ℤ). north -ℤ m) first_same

  pub latitude-same : (north : ℤ) → latitude_known t north ≡ latitude_known s north
  unfolding latitude_known
  latitude-same north = rw (latitude_rows, from_first_same north)

  pub l_same : (west : ℤ) → l_of t west ≡ l_of s west
  unfolding l_of
  l_same west = ap (λ (m : ℤ). m -ℤ west) central_same

  pub size_same : (size : ℤ) → size_known t size ≡ size_known s size
  unfolding size_known
  size_same size = within_same longitude (lit≤ tt) (lit≤ tt) (λ e. omega arith) size

  pub longitude-same : (west : ℤ) → longitude_known t west ≡ longitude_known s west
  unfolding longitude_known
  longitude-same west = rw (l_same west, size_same (pos (nat_abs (l_of s west))))

  pub x_prime_same : (x : ℤ) → x_prime t x ≡ x_prime s x
  unfolding x_prime
  x_prime_same x = ap (λ (c : ℤ). x -ℤ c) false_same

  pub easting-same : (xp : ℤ) → easting_known t xp ≡ easting_known s xp
  unfolding easting_known
  easting-same xp = within_same easting (lit≤ tt) (lit≤ tt) (λ e. omega arith) (pos (nat_abs xp))

  pub scale_same : (xp : ℤ) → scale_known t xp ≡ scale_known s xp
  unfolding scale_known
  scale_same xp = within_same scale (lit≤ tt) (lit≤ tt) (λ e. omega arith) (pos (nat_abs xp))

  pub northing-same : (y : ℤ) → northing_known t y ≡ northing_known s y
  unfolding northing_known
  northing-same y = within_same northing (lit≤ tt) (lit≤ tt) (λ e. omega arith) y

  -- ---- the latitude figures, outside the intervals beside row r
  pub y0_row-same : (i : ℕ) → (i ≡ r → ⊥) → y0_of t i ≡ y0_of s i
  unfolding y0_of
  y0_row-same i h = same.y0 i h

  module _ (d : ℕ) (outside : Outside r d) where
    column-same : (f g : ℕ → ℤ) → ((i : ℕ) → (i ≡ r → ⊥) → g i ≡ f i) → value_at g one_minute d ≡ value_at f one_minute d
    column-same f g rows = pick outside
      where
        pick : Outside r d → value_at g one_minute d ≡ value_at f one_minute d
        pick (inl low) = value_below f g one_minute r (lit< tt) rows d low.0 low.1
        pick (inr high) = value_above f g one_minute r (lit< tt) rows d high

    pub y0_same : y0_at t d ≡ y0_at s d
    unfolding y0_at
    y0_same = column-same (figure_of s latitude 1) (figure_of t latitude 1) same.y0

    pub h_same : h_at t d ≡ h_at s d
    unfolding h_at
    h_same = ap nat_abs (column-same (figure_of s latitude 3) (figure_of t latitude 3) same.h)

    pub v_same : v_at t d ≡ v_at s d
    unfolding v_at
    v_same = ap nat_abs (column-same (figure_of s latitude 5) (figure_of t latitude 5) same.v)

    pub a_same : a_at t d ≡ a_at s d
    unfolding a_at
    a_same = column-same (figure_of s latitude 7) (figure_of t latitude 7) same.a

    mark_same : (f g : ℕ → ℤ) → ((i : ℕ) → (i ≡ r → ⊥) → g i ≡ f i) → value_half g (one_minute) d ≡ value_half f (one_minute) d
    mark_same f g rows = pick outside
      where
        pick : Outside r d → value_half g (one_minute) d ≡ value_half f (one_minute) d
        pick (inl low) = half_below f g (one_minute) r (lit< tt) rows d low.0 low.1
        pick (inr high) = half_above f g (one_minute) r (lit< tt) rows d high

    pub y0_half-same : y0_half t d ≡ y0_half s d
    unfolding y0_half
    y0_half-same = mark_same (figure_of s latitude 1) (figure_of t latitude 1) same.y0

    pub h_half-same : h_half t d ≡ h_half s d
    unfolding h_half
    h_half-same = mark_same (figure_of s latitude 3) (figure_of t latitude 3) same.h

    pub v_half-same : v_half t d ≡ v_half s d
    unfolding v_half
    v_half-same = mark_same (figure_of s latitude 5) (figure_of t latitude 5) same.v

    pub a_half-same : a_half t d ≡ a_half s d
    unfolding a_half
    a_half-same = mark_same (figure_of s latitude 7) (figure_of t latitude 7) same.a
