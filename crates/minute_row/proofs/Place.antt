-- The place of the minute's row in the body, as the code finds it: p is how far the minute stands from the first row's. Assumes nothing.
use mathlib.Core.Path.{◌≡◌, refl, sym, subst, ap, ◌∙◌}
use mathlib.Core.Bool.{Bool, true, false}
use mathlib.Core.List.{List}
use Prim.Native.Nat.{ℕ, ◌+◌, ◌-◌, ◌*◌, ◌^◌, ◌<◌, ◌≤◌, zero-le}
use native.Mathlib.Omega.{arith}
use borrow.Author.Tests.{le-leb, lt-leb, le-ltb, leb-true, leb-false}
use lib.Dec.{T}
use lib.IntN.{ℤ, pos, negsuc, nat_abs}
use lib.Signed.{non_neg, lt_z, le_z}
use mir.Syntax.{w64}
use mir.Val.{Fits}
use Rattle.std.specs.Bool.{then_some}
use Rattle.std.specs.Option.{MatchOption}
use Rattle.rounding.proofs.Sizes.{Size, size_non_neg}
use Rattle.rounding.proofs.Tests.{both}
use Rattle.entries.specs.Layout.{latitude, width_of, row_bytes}
use Rattle.refusals.specs.Tests.{in_range, same_as}
use Rattle.rules.proofs.WhatPasses.{range_size}
use Rattle.latitude_rows.specs.Rows.{row_at}
use Rattle.minute_row.specs.MinuteRow.{from_first_minute, named_row, has_row}

-- ---- p among n rows
below : (p : ℤ) (n : ℕ) → lt_z p (pos 0) ≡ true → in_range (pos 0) p (pos (n - 1)) ≡ false
unfolding in_range
below (pos k) n e = absurd (subst T (sym e ∙ le-ltb k 0 zero-le) tt)
below (negsuc k) n e = refl

above : (p : ℤ) (n : ℕ) → 0 < n → le_z (pos n) p ≡ true → in_range (pos 0) p (pos (n - 1)) ≡ false
unfolding in_range
above (pos k) n some e = rw (le-leb 0 k zero-le, lt-leb k (n - 1) (omega (arith, leb-true n k e)))
above (negsuc k) n some e = refl

among : (p : ℤ) (n : ℕ) → 0 < n → lt_z p (pos 0) ≡ false → le_z (pos n) p ≡ false → in_range (pos 0) p (pos (n - 1)) ≡ true
unfolding in_range
among (pos k) n some e l = rw (le-leb 0 k zero-le, le-leb k (n - 1) (omega (arith, leb-false n k l)))
among (negsuc k) n some e l = absurd (subst T e tt)

-- ---- the minute's row
module _ (b : List ℕ) (n : ℕ) (minute p : ℤ) (e : p ≡ from_first_minute b minute) (some : 0 < n) where
  pub none_below : lt_z p (pos 0) ≡ true → has_row b n minute ≡ false
  unfolding has_row
  none_below h = rw (← e, below p n h)

  pub none_above : le_z (pos n) p ≡ true → has_row b n minute ≡ false
  unfolding has_row
  none_above h = rw (← e, above p n some h)

  module _ (low : lt_z p (pos 0) ≡ false) (high : le_z (pos n) p ≡ false) where
    pub place_size : Size 0 p (n - 1)
    place_size = range_size 0 p (n - 1) (among p n some low high)

    -- its own minute decides
    pub by_minute : (own : ℤ) (t : Bool) → own ≡ (row_at b (nat_abs p)).minute → t ≡ same_as own minute
        → MatchOption (then_some t (nat_abs p)) (has_row b n minute ≡ false) (λ r. (has_row b n minute ≡ true) × (r ≡ named_row b minute) × (r < n))
    unfolding has_row
    by_minute own t q same = pick t (sym (same ∙ rw (q, ← e, among p n some low high)))
      where
        pick : (t : Bool) → has_row b n minute ≡ t
            → MatchOption (then_some t (nat_abs p)) (has_row b n minute ≡ false) (λ r. (has_row b n minute ≡ true) × (r ≡ named_row b minute) × (r < n))
        pick true h = (h, ap nat_abs e, omega (arith, place_size.high))
        pick false h = h

-- ---- what a body that has the row shows of it
module _ (b : List ℕ) (n : ℕ) (minute : ℤ) (has : has_row b n minute ≡ true) where
  parts : (in_range (pos 0) (from_first_minute b minute) (pos (n - 1)) ≡ true) × (same_as (row_at b (named_row b minute)).minute minute ≡ true)
  unfolding has_row
  parts = both _ _ has

  pub row_size : Size 0 (from_first_minute b minute) (n - 1)
  row_size = range_size 0 (from_first_minute b minute) (n - 1) parts.0

  pub row_there : 0 < n → named_row b minute < n
  row_there some = omega (arith, row_size.high)

-- ---- the place as it is cast to a row: p has at most n - 1, and n rows lie in the body
module _ (size n : ℕ) {p : ℤ} (within : Size 0 p (n - 1)) (some : 0 < n) (rows : row_bytes latitude * n ≤ size) (small : size < 2 ^ 63) where
  pub cast_place : T (non_neg p) × Fits w64 (nat_abs p)
  cast_place = (size_non_neg within, record { fits = omega (arith, within.high) })

  pub place-word : Fits w64 (width_of latitude * nat_abs p)
  place-word = record { fits = omega (arith, within.high) }

  pub own_word : 4 * (width_of latitude * nat_abs p) + 4 ≤ size
  own_word = omega (arith, within.high)
