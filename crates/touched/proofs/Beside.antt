-- A reduced northing against y0 of the rows beside row r, in the shape of the code: a number with ' has the bits of the one without. Assumes nothing.
use mathlib.Core.Path.{◌≡◌, sym}
use mathlib.Core.Bool.{Bool, ◌&&◌}
use mathlib.Core.List.{List}
use Prim.Native.Nat.{ℕ, ◌+◌, ◌-◌, ◌^◌, ◌<◌, ◌≤◌}
use native.Mathlib.Omega.{arith}
use lib.Dec.{lit≤}
use lib.IntN.{ℤ, pos, nat_abs, ◌+ℤ◌, ◌-ℤ◌}
use lib.Signed.{mag, le_z, lt_z}
use mir.Syntax.{w64}
use mir.Val.{Fits, of_z}
use Rattle.rounding.proofs.Holds.{Holds, held_result, renamed}
use Rattle.refusals.proofs.Ladders.{where_below_lem, where_beyond}
use Rattle.rules.specs.Latitude.{most_rise}
use Rattle.entries.specs.Layout.{latitude}
use Rattle.entries.specs.Entries.{rows_of}
use Rattle.contents.proofs.Passing.{rows_least}
use Rattle.sheet_check.specs.Check.{check_of}
use Rattle.sheet_check.proofs.Known.{contents-none}
use Rattle.tables.specs.Figures.{y0_of}
use Rattle.extent.proofs.Reach.{latitude_count}
use Rattle.touched.specs.Touched.{above_prior, below_next}

module _ (s : List ℕ) (r : ℕ) (z : ℤ) where
  -- the tests of the first row and of the last
  abbrev least : Bool
  least = le_z (y0_of s (r + 1) -ℤ pos most_rise) z

  abbrev greatest : Bool
  greatest = le_z z (y0_of s (r - 1) +ℤ pos most_rise)

  module _ (y' z' : ℤ) (same : z' ≡ z) where
    -- ---- y is y0 of the row beside it
    pub above_is : (y : ℤ) → y' ≡ y → 0 < r → y ≡ y0_of s (r - 1) → lt_z y' z' ≡ above_prior s r z
    unfolding above_prior
    above_is y g h e = rw (g, e, same) (sym (where_below_lem 0 r (lt_z (y0_of s (r - 1)) z) least h))

    pub below_is : (y : ℤ) → y' ≡ y → r + 1 < rows_of s latitude → y ≡ y0_of s (r + 1) → lt_z z' y' ≡ below_next s r z
    unfolding below_next
    below_is y g h e = rw (g, e, same) (sym (where_below_lem (r + 1) (rows_of s latitude) (lt_z z (y0_of s (r + 1))) greatest h))

    -- ---- there is none
    pub from-least : r ≤ 0 → y' ≡ y0_of s (r + 1) -ℤ pos most_rise → le_z y' z' ≡ above_prior s r z
    unfolding above_prior
    from-least h e = rw (e, same) (sym (where_beyond 0 r (lt_z (y0_of s (r - 1)) z) least h))

    pub to_greatest : rows_of s latitude ≤ r + 1 → y' ≡ y0_of s (r - 1) +ℤ pos most_rise → le_z z' y' ≡ below_next s r z
    unfolding below_next
    to_greatest h e = rw (e, same) (sym (where_beyond (r + 1) (rows_of s latitude) (lt_z z (y0_of s (r + 1))) greatest h))

  -- ---- both answers
  pub beside_is : (z' : ℤ) → z' ≡ z → (a b : Bool) → a ≡ above_prior s r z' → b ≡ below_next s r z' → (a && b) ≡ (above_prior s r z && below_next s r z)
  beside_is z' same a b p q = rw (p, q, same)

-- the row after it has a number
pub next_fits : (s : List ℕ) → (check_of s).number ≡ 0 → (r : ℕ) → r < rows_of s latitude → Fits w64 (r + 1)
next_fits s z r h = record { fits = omega (arith, h, latitude_count s z) }

-- there are two rows or more
pub two_rows : (s : List ℕ) → (check_of s).number ≡ 0 → 2 ≤ rows_of s latitude
two_rows s z = rows_least s (contents-none s z) latitude (lit≤ tt) (lit≤ tt)

-- y0 as it was read
pub y0_held : {r v : ℤ} → mag r < 2 ^ 63 → (r ≡ v) × (nat_abs r ≤ 999_999_999) → Holds w64 (of_z w64 r) v 999_999_999
y0_held {r} ok e = renamed (held_result w64 r ok e.1) e.0
