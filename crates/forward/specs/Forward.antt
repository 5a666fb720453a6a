-- "Geographic to plane." Latitude and longitude in 0.001″, x and y in 0.01 ft. s is the sheet.
use Rattle.std.specs.Prelude.{Bool, false, ◌||◌, List, ℕ, ◌*◌, ◌≤◌, T, ℤ, pos, nat_abs, ◌+ℤ◌, ◌*ℤ◌, Result, Ok, Err}
use Rattle.refusals.specs.declared.Refusal.{Refusal}
use Rattle.refusals.specs.Numbers.{number_of}
use Rattle.std.specs.Int.Signed.{non_neg}
use Rattle.rounding.specs.Nearest.{with_sign}
use Rattle.rounding.specs.Ranges.{most_h, most_v, most_a, most_b, most_c, most_s}
use Rattle.steps.specs.Steps.{q_of, q_half, size_of_x, size_of_x_half, rise, rise_half}
use Rattle.refusals.specs.Ladder.{need}
use Rattle.tables.specs.Figures.{false_easting_of, y0_at, y0_half, h_at, h_half, v_at, v_half, a_at, a_half, b_at, b_half, c_at, c_half}
use Rattle.extent.specs.Extent.{from_first, latitude_known, l_of, longitude_known}
use Rattle.forward.specs.declared.Plane.{Plane}
use Rattle.forward.specs.declared.Longitude.{Longitude}
use Rattle.forward.specs.declared.Taken.{Taken}

-- The answer, as it is told: number, x and y in 0.01 ft, and whether "some rounding in it met a half (no in a refusal)". "A refused conversion carries zeros."
pub record PlaneTold : Type 0 where
  pub number : ℕ
  pub x : ℤ
  pub y : ℤ
  pub half : Bool

abbrev pub plane : ℕ → ℤ → ℤ → Bool → PlaneTold
plane number x y half = record { number = number; x = x; y = y; half = half }

abbrev pub no_plane : ℕ → PlaneTold
no_plane number = plane number (pos 0) (pos 0) false

-- What code answers, as it is told.
abbrev pub plane_told : Result Plane Refusal → PlaneTold
plane_told (Ok p) = plane 0 p.x p.y p.half
plane_told (Err r) = no_plane (number_of r)

-- "From latitude take y0, H, V, a; from s take b, c." t is the latitude's distance from row 0, and size is s, the size of L.
-- "The size of x' is the nearest hundredth of H·s + a·b"
unfoldable pub x_size : List ℕ → ℕ → ℕ → ℤ
x_size s t size = size_of_x (h_at s t) size (a_at s t) (b_at s size)

-- "with the sign of L; x = x' + C."
unfoldable pub x_of : List ℕ → ℕ → ℤ → ℤ
x_of s t l = with_sign l (x_size s t (nat_abs l)) +ℤ false_easting_of s

-- "y = y0 + nearest hundredth of (V·q + c)."
unfoldable pub y_of : List ℕ → ℕ → ℕ → ℤ
y_of s t size = y0_at s t +ℤ rise (v_at s t) (q_of size) (c_at s size)

-- "some rounding in it met a half": on the way to x, H, a, b and the size of x'; on the way to y, y0, V, c, q and the rise.
unfoldable pub x_half : List ℕ → ℕ → ℕ → Bool
x_half s t size = h_half s t || a_half s t || b_half s size || size_of_x_half (h_at s t) size (a_at s t) (b_at s size)

unfoldable pub y_half : List ℕ → ℕ → ℕ → Bool
y_half s t size = y0_half s t || v_half s t || c_half s size || q_half size || rise_half (v_at s t) (q_of size) (c_at s size)

-- The point on the plane, at the latitude's distance t from row 0 and L.
unfoldable pub plane_from : List ℕ → ℕ → ℤ → PlaneTold
plane_from s t l = plane 0 (x_of s t l) (y_of s t (nat_abs l)) (x_half s t (nat_abs l) || y_half s t (nat_abs l))

unfoldable pub plane_at : List ℕ → ℤ → ℤ → PlaneTold
plane_at s north west = plane_from s (nat_abs (from_first s north)) (l_of s west)

-- "forward 10, 11", on a sheet that passes
unfoldable pub forward_of : List ℕ → ℤ → ℤ → PlaneTold
forward_of s north west =
    need (latitude_known s north) (no_plane 10)
    (need (longitude_known s west) (no_plane 11)
    (plane_at s north west))

-- ---- the same in two parts: reading the figures, and working on figures alone, so that figures read in another way are worked by the same definitions
-- "from s take b, c."
unfoldable pub longitude_at : List ℕ → ℕ → Longitude
longitude_at s size = record { b = record { value = b_at s size; half = b_half s size }; c = record { value = c_at s size; half = c_half s size } }

-- "From latitude take y0, H, V, a; from s take b, c."
unfoldable pub taken_at : List ℕ → ℕ → ℕ → Taken
taken_at s t size = record {
  y0 = record { value = y0_at s t; half = y0_half s t };
  h = record { value = h_at s t; half = h_half s t };
  v = record { value = v_at s t; half = v_half s t };
  a = record { value = a_at s t; half = a_half s t };
  b = (longitude_at s size).b;
  c = (longitude_at s size).c;
}

-- x and y of the figures f, with their marks. `easting` is the false easting C, not the kind.
unfoldable pub worked_x : Taken → ℤ → ℤ → ℤ
worked_x f easting l = with_sign l (size_of_x f.h.value (nat_abs l) f.a.value f.b.value) +ℤ easting

unfoldable pub worked_y : Taken → ℕ → ℤ
worked_y f size = f.y0.value +ℤ rise f.v.value (q_of size) f.c.value

unfoldable pub worked_x_half : Taken → ℕ → Bool
worked_x_half f size = f.h.half || f.a.half || f.b.half || size_of_x_half f.h.value size f.a.value f.b.value

unfoldable pub worked_y_half : Taken → ℕ → Bool
worked_y_half f size = f.y0.half || f.v.half || f.c.half || q_half size || rise_half f.v.value (q_of size) f.c.value

-- The point on the plane. That it is `plane_from` of a sheet's figures, `Eastings.taken-worked` proves.
unfoldable pub worked_of : Taken → ℤ → ℤ → PlaneTold
worked_of f easting l = plane 0 (worked_x f easting l) (worked_y f (nat_abs l)) (worked_x_half f (nat_abs l) || worked_y_half f (nat_abs l))

-- What the work asks of its figures, of C and of L: the ranges of a sheet that passes, and H·s + a·b not below zero.
pub record Workable (f : Taken) (easting l : ℤ) : Type 0 where
  pub h_most : f.h.value ≤ most_h
  pub v_most : f.v.value ≤ most_v
  pub a_most : nat_abs f.a.value ≤ most_a
  pub b_most : nat_abs f.b.value ≤ most_b
  pub c_most : nat_abs f.c.value ≤ most_c
  pub y0_most : nat_abs f.y0.value ≤ 999_999_999
  pub easting-most : nat_abs easting ≤ 100_000_000
  pub l_most : nat_abs l ≤ most_s
  pub not_negative : T (non_neg (pos (f.h.value * nat_abs l) +ℤ f.a.value *ℤ f.b.value *ℤ pos 1_000))
