-- On a sheet that passes no row touches a line but those of `lower_minute` and of the minute after it. Assumes nothing.
use mathlib.Core.Path.{◌≡◌, refl, sym, ap, ◌∙◌}
use mathlib.Core.Bool.{Bool, true, false, ◌&&◌}
use mathlib.Core.List.{List}
use mathlib.Core.Logic.{◌⊎◌, inl, inr, ⊎_elim}
use Prim.Native.Nat.{ℕ, zero, suc, ◌+◌, ◌-◌, ◌*◌, ◌/◌, ◌<◌, ◌≤◌}
use native.Mathlib.Decide.{dec_le}
use native.Mathlib.Nat.{div-add-mod', mod-lt, mul-div_cancel}
use native.Mathlib.Numerals.{add-one}
use native.Mathlib.Omega.{arith}
use borrow.Author.Tests.{ltb-true}
use lib.Dec.{lit<}
use lib.IntN.{ℤ, pos, nat_abs, ◌+ℤ◌, ◌-ℤ◌, ◌*ℤ◌, +ℤ_idr, -ℤ-+ℤ_cancel}
use lib.Signed.{le_z, lt_z}
use Rattle.rounding.proofs.Sizes.{pos_minus, sub_ℕ_le, sub_ℕ_lt, size_product}
use Rattle.rounding.proofs.Bits.{both-same}
use Rattle.rounding.proofs.Tests.{both, never}
use Rattle.rounding.proofs.Order.{above_of, not_above_of, not_below_of, lt_z_le, lt_z-le_z, le_z_trans, heights_le}
use Rattle.std.proofs.Common.{Option, Some, None}
use Rattle.refusals.specs.Ladder.{need}
use Rattle.refusals.proofs.Ladders.{where_below_lem}
use Rattle.rules.specs.Latitude.{least_rise, most_rise}
use Rattle.entries.specs.Layout.{latitude, one_minute}
use Rattle.entries.specs.Entries.{rows_of, body_of}
use Rattle.latitude_rows.specs.Rows.{row_at}
use Rattle.sheet_check.specs.Check.{check_of}
use Rattle.convert.proofs.Checked.{after_pass}
use Rattle.row_search.specs.Rows.{last_not_above, RisesBy, Rising}
use Rattle.row_search.proofs.LastRow.{only-last}
use Rattle.row_search.proofs.Rising.{rises-rising, rises-least}
use Rattle.tables.specs.Figures.{first_latitude_of, y0_of}
use Rattle.tables.proofs.Ranges.{latitude-some, minute_size, y0_rises}
use Rattle.extent.specs.Extent.{from_first, latitude_known, longitude_known, x_prime, easting_known, northing_known}
use Rattle.extent.proofs.Reach.{latitude_reach}
use Rattle.inverse.specs.Inverse.{reduced_northing, row_of}
use Rattle.minute_row.specs.MinuteRow.{from_first_minute}
use Rattle.minute_row.proofs.Place.{row_size, row_there}
use Rattle.touched.specs.Touched.{touch, no_touch, has_minute, row_named, near_row, forward_touched, above_prior, below_next, inverse_touched, geographic_touched, plane_touched}
use Rattle.point_line.specs.declared.Form.{Form}
use Rattle.point_line.specs.declared.Form.TheVariants.{Forward, Inverse, Convergence}
use Rattle.point_line.specs.declared.Line.{Line}
use Rattle.point_line.specs.PointLine.{by_form}
use Rattle.reached.specs.Reached.{touches, first_minute, plane_minute, lower_minute}

-- ---- of tests
need-true : (a b : Bool) → need a false b ≡ true → (a ≡ true) × (b ≡ true)
unfolding need
need-true true b h = (refl, h)
need-true false b h = never h

touch-true : (a b : Bool) → (need a (no_touch 16) (touch 0 b)).touched ≡ true → (a ≡ true) × (b ≡ true)
unfolding need
touch-true true b h = (refl, h)
touch-true false b h = never h

-- ---- of numbers: m steps lie less than a step from n
near-two : (n m : ℕ) → nat_abs (pos n -ℤ pos (m * one_minute)) < one_minute → (m ≡ n / one_minute) ⊎ (m ≡ n / one_minute + 1)
near-two n m h = pick (dec_le (m * one_minute) n)
  where
    pick : Dec (m * one_minute ≤ n) → (m ≡ n / one_minute) ⊎ (m ≡ n / one_minute + 1)
    pick (yes l) =
        let size : nat_abs (pos n -ℤ pos (m * one_minute)) ≡ n - m * one_minute = ap nat_abs (pos_minus n (m * one_minute) ∙ sub_ℕ_le l) in
        inl (omega (arith, size, div-add-mod' n one_minute, mod-lt n {m = one_minute} (lit< tt)))
    pick (no l) =
        let size : nat_abs (pos n -ℤ pos (m * one_minute)) ≡ suc (m * one_minute - suc n) = ap nat_abs (pos_minus n (m * one_minute) ∙ sub_ℕ_lt (omega arith)) in
        inr (omega (arith, size, div-add-mod' n one_minute, mod-lt n {m = one_minute} (lit< tt)))

-- ---- of a column that rises by least or more
module _ (f : ℕ → ℤ) (n least most : ℕ) (some : 0 < least) (rises : RisesBy f n least most) (z : ℤ) where
  abbrev k : ℕ
  k = last_not_above f n z

  -- where row 0 is above z, so is every row
  all_above : lt_z z (f 0) ≡ true → (i : ℕ) → i < n → lt_z z (f i) ≡ true
  all_above h i l =
      lt_z-le_z z (f 0) (f i) h
      (le_z_trans (f 0) (f 0 +ℤ pos (i * least)) (f i) (rw (+ℤ_idr (f 0)) at (heights_le (f 0) {m = 0} {n = i * least} (omega arith)))
      (rises-least f n least most rises i l))

  none_below : (m : ℕ) → ((i : ℕ) → i < m → lt_z z (f i) ≡ true) → last_not_above f m z ≡ 0
  unfolding last_not_above
  none_below zero h = refl
  none_below (suc m) h = rw (not_above_of (f m) z (h m (omega arith))) (none_below m (λ i l. h i (omega arith)))

  pub first_above : lt_z z (f 0) ≡ true → 0 ≡ k
  first_above h = sym (none_below n (all_above h))

  rising : Rising f n
  rising = rises-rising f n least most rises some

  own_above : (r : ℕ) → r < n → (0 < r → lt_z (f (r - 1)) z ≡ true) → lt_z z (f r) ≡ true → (r ≡ k) ⊎ (r ≡ k + 1)
  own_above zero l prior h = inl (first_above h)
  own_above (suc r) l prior h =
      let before : suc r - 1 ≡ r = omega arith in
      let e : r ≡ k = only-last f z n r rising (omega arith) (lt_z_le (f r) z (rw before at (prior (omega arith)))) (λ q. rw (add-one r) h) in
      inr (omega arith)

  -- z lies above the row before r and below the row after it
  pub row-two : (r : ℕ) → r < n → (0 < r → lt_z (f (r - 1)) z ≡ true) → (r + 1 < n → lt_z z (f (r + 1)) ≡ true) → (r ≡ k) ⊎ (r ≡ k + 1)
  row-two r l prior next = pick (le_z (f r) z) refl
    where
      pick : (t : Bool) → le_z (f r) z ≡ t → (r ≡ k) ⊎ (r ≡ k + 1)
      pick true e = inl (only-last f z n r rising l e next)
      pick false e = own_above r l prior (above_of (f r) z e)

-- ---- of a sheet that passes
module _ (s : List ℕ) (ok : (check_of s).number ≡ 0) where
  abbrev b : List ℕ
  b = body_of s latitude

  abbrev n : ℕ
  n = rows_of s latitude

  abbrev first : ℤ
  first = (row_at b 0).minute

  first_is : first ≡ pos (nat_abs first)
  first_is = (minute_size s ok).is

  first_minute_lem : first_minute s ≡ nat_abs first
  unfolding first_latitude_of
  first_minute_lem = ap (λ (x : ℕ). x / one_minute) (size_product first (pos one_minute)) ∙ mul-div_cancel (nat_abs first) (lit< tt)

  -- a row's minute counts on from the first
  minute_is : (minute : ℤ) → has_minute s minute ≡ true → minute ≡ pos (row_named s minute + nat_abs first)
  unfolding from_first_minute
  minute_is minute has =
      sym (-ℤ-+ℤ_cancel minute first)
      ∙ ap (λ (x : ℤ). x +ℤ first) (row_size b n minute has).is
      ∙ ap (λ (x : ℤ). pos (row_named s minute) +ℤ x) first_is

  north_is : (north : ℤ) → latitude_known s north ≡ true → north ≡ pos (nat_abs (from_first s north) + nat_abs first * one_minute)
  unfolding from_first first_latitude_of
  north_is north known =
      sym (-ℤ-+ℤ_cancel north (first *ℤ pos one_minute))
      ∙ ap (λ (x : ℤ). x +ℤ first *ℤ pos one_minute) (latitude_reach s north known).is
      ∙ ap (λ (x : ℤ). pos (nat_abs (north -ℤ first *ℤ pos one_minute)) +ℤ x *ℤ pos one_minute) first_is

  -- ---- a geographic point
  geographic-two : (minute north west : ℤ) → (geographic_touched s minute north west).touched ≡ true → (minute ≡ pos (nat_abs north / one_minute)) ⊎ (minute ≡ pos (nat_abs north / one_minute + 1))
  unfolding geographic_touched forward_touched near_row
  geographic-two minute north west h =
      let found = touch-true (has_minute s minute) _ (ap (λ t. t.touched) (sym (after_pass (λ t. t.number) no_touch (λ n. refl) s _ ok)) ∙ h) in
      let known = need-true (latitude_known s north) _ found.1 in
      let near = need-true (longitude_known s west) _ known.1 in
      let m = minute_is minute found.0 in
      let d = nat_abs (from_first s north) in
      let at = north_is north known.0 in
      let size : nat_abs north ≡ d + nat_abs first * one_minute = ap nat_abs at in
      let apart : nat_abs (north -ℤ minute *ℤ pos one_minute) ≡ nat_abs (pos (d + nat_abs first * one_minute) -ℤ pos ((row_named s minute + nat_abs first) * one_minute)) =
      both-same (λ (x y : ℤ). nat_abs (x -ℤ y *ℤ pos one_minute)) at m in
      ⊎_elim (λ e. inl (m ∙ ap pos (e ∙ ap (λ (x : ℕ). x / one_minute) (sym size)))) (λ e. inr (m ∙ ap pos (e ∙ ap (λ (x : ℕ). x / one_minute + 1) (sym size))))
      (near-two (d + nat_abs first * one_minute) (row_named s minute + nat_abs first) (rw apart at (ltb-true (nat_abs (north -ℤ minute *ℤ pos one_minute)) one_minute near.1)))

  -- ---- a plane point
  beside_two : (r : ℕ) (z : ℤ) → r < n → above_prior s r z && below_next s r z ≡ true → (r ≡ row_of s z) ⊎ (r ≡ row_of s z + 1)
  unfolding above_prior below_next row_of
  beside_two r z l h =
      row-two (y0_of s) n least_rise most_rise (lit< tt) (y0_rises s ok) z r l
      (λ q. sym (where_below_lem 0 r _ _ q) ∙ (both (above_prior s r z) (below_next s r z) h).0)
      (λ q. sym (where_below_lem (r + 1) n _ _ q) ∙ (both (above_prior s r z) (below_next s r z) h).1)

  plane_minute_lem : (x y : ℤ) → easting_known s (x_prime s x) ≡ true → northing_known s y ≡ true → plane_minute s x y ≡ nat_abs first + row_of s (reduced_northing s (nat_abs (x_prime s x)) y)
  unfolding plane_minute need
  plane_minute_lem x y e h = rw (e, h, first_minute_lem)

  plane-two : (minute x y : ℤ) → (plane_touched s minute x y).touched ≡ true → (minute ≡ pos (plane_minute s x y)) ⊎ (minute ≡ pos (plane_minute s x y + 1))
  unfolding plane_touched inverse_touched
  plane-two minute x y h =
      let found = touch-true (has_minute s minute) _ (ap (λ t. t.touched) (sym (after_pass (λ t. t.number) no_touch (λ n. refl) s _ ok)) ∙ h) in
      let easting = need-true (easting_known s (x_prime s x)) _ found.1 in
      let northing = need-true (northing_known s y) _ easting.1 in
      let m = minute_is minute found.0 in
      let lower = plane_minute_lem x y easting.0 northing.0 in
      ⊎_elim (λ e. inl (m ∙ ap pos (omega (arith, e, lower)))) (λ e. inr (m ∙ ap pos (omega (arith, e, lower))))
      (beside_two (row_named s minute) (reduced_northing s (nat_abs (x_prime s x)) y) (row_there b n minute found.0 (latitude-some s ok)) northing.1)

  -- its row, where the first y0 was read as y and z has the bits of z'
  module _ (z z' y : ℤ) (same : z' ≡ z) (read : y ≡ y0_of s 0) where
    pub none_below_it : lt_z z' y ≡ true → 0 ≡ row_of s z
    unfolding row_of
    none_below_it h = first_above (y0_of s) n least_rise most_rise (lit< tt) (y0_rises s ok) z (rw (same, read) at h)

    pub some_below_it : lt_z z' y ≡ false → le_z (y0_of s 0) z' ≡ true
    some_below_it h = not_below_of z' (y0_of s 0) (rw read at h)

  -- ---- a line
  pub only_two : (l : Option Line) (minute : ℤ) → touches s l minute ≡ true → (minute ≡ pos (lower_minute s l)) ⊎ (minute ≡ pos (lower_minute s l + 1))
  unfolding touches lower_minute
  only_two None minute h = never h
  only_two (Some l) minute h = of_form l.form h
    where
      of_form : (f : Form) → by_form f (geographic_touched s minute l.first l.second).touched (plane_touched s minute l.first l.second).touched false ≡ true
          → (minute ≡ pos (by_form f (nat_abs l.first / one_minute) (plane_minute s l.first l.second) 0)) ⊎ (minute ≡ pos (by_form f (nat_abs l.first / one_minute) (plane_minute s l.first l.second) 0 + 1))
      of_form Forward h = geographic-two minute l.first l.second h
      of_form Inverse h = plane-two minute l.first l.second h
      of_form Convergence h = never h
