-- A latitude a minute or more from a row's lies outside the two intervals beside that row. Assumes nothing.
use mathlib.Core.Path.{◌≡◌, sym, ap, ◌∙◌}
use mathlib.Core.Bool.{true}
use mathlib.Core.List.{List}
use mathlib.Core.Logic.{◌⊎◌, inl, inr}
use Prim.Native.Nat.{ℕ, suc, ◌+◌, ◌-◌, ◌*◌, ◌≤◌}
use native.Mathlib.Decide.{dec_le}
use native.Mathlib.Omega.{arith}
use lib.IntN.{ℤ, pos, neg_ℤ, nat_abs, ◌+ℤ◌, ◌-ℤ◌, ◌*ℤ◌, +ℤ_assoc, +ℤ_invl, +ℤ_idl, +ℤ-neg_ℤ_cancel}
use Rattle.rounding.proofs.Sizes.{pos_minus, sub_ℕ_le, sub_ℕ_lt}
use Rattle.rounding.proofs.Ring.{difference_times}
use Rattle.entries.specs.Layout.{latitude, one_minute}
use Rattle.entries.specs.Entries.{rows_of, body_of}
use Rattle.latitude_rows.specs.Rows.{row_at}
use Rattle.sheet_check.specs.Check.{check_of}
use Rattle.tables.specs.Figures.{first_latitude_of}
use Rattle.extent.specs.Extent.{from_first, latitude_known}
use Rattle.extent.proofs.Reach.{latitude_reach}
use Rattle.minute_row.specs.MinuteRow.{from_first_minute}
use Rattle.minute_row.proofs.Place.{row_size}
use Rattle.touched.specs.Touched.{has_minute, row_named}
use Rattle.corrected.proofs.Beside.{Outside}

-- ---- of numbers
-- (a − q) + (q − p) is a − p, so (a − p) − (q − p) is a − q
telescope : (a q p : ℤ) → (a -ℤ q) +ℤ (q -ℤ p) ≡ a -ℤ p
telescope a q p =
    +ℤ_assoc a (neg_ℤ q) (q -ℤ p)
    ∙ ap (λ (x : ℤ). a +ℤ x) (sym (+ℤ_assoc (neg_ℤ q) q (neg_ℤ p)) ∙ ap (λ (x : ℤ). x +ℤ neg_ℤ p) (+ℤ_invl q) ∙ +ℤ_idl (neg_ℤ p))

less_both : (a q p : ℤ) → (a -ℤ p) -ℤ (q -ℤ p) ≡ a -ℤ q
less_both a q p = ap (λ (x : ℤ). x -ℤ (q -ℤ p)) (sym (telescope a q p)) ∙ +ℤ-neg_ℤ_cancel (a -ℤ q) (q -ℤ p)

-- two sizes that lie k or more apart
apart : (d e k : ℕ) → k ≤ nat_abs (pos d -ℤ pos e) → (d + k ≤ e) ⊎ (e + k ≤ d)
apart d e k h = pick (dec_le e d)
  where
    pick : Dec (e ≤ d) → (d + k ≤ e) ⊎ (e + k ≤ d)
    pick (yes l) =
        let size : nat_abs (pos d -ℤ pos e) ≡ d - e = ap nat_abs (pos_minus d e ∙ sub_ℕ_le l) in
        inr (omega (arith, size))
    pick (no l) =
        let size : nat_abs (pos d -ℤ pos e) ≡ suc (e - suc d) = ap nat_abs (pos_minus d e ∙ sub_ℕ_lt (omega arith)) in
        inl (omega (arith, size))

module _ (s : List ℕ) (ok : (check_of s).number ≡ 0) where
  abbrev b : List ℕ
  b = body_of s latitude

  abbrev n : ℕ
  n = rows_of s latitude

  -- ---- a latitude far from the minute's row
  module _ (minute : ℤ) (has : has_minute s minute ≡ true) where
    abbrev r : ℕ
    r = row_named s minute

    minute_is : minute -ℤ (row_at b 0).minute ≡ pos r
    unfolding from_first_minute
    minute_is = (row_size b n minute has).is

    pub far_outside : (north : ℤ) → latitude_known s north ≡ true → one_minute ≤ nat_abs (north -ℤ minute *ℤ pos one_minute) → Outside r (nat_abs (from_first s north))
    unfolding from_first first_latitude_of
    far_outside north known far =
        let d = nat_abs (from_first s north) in
        let step = pos one_minute in
        let first = (row_at b 0).minute in
        let there : north -ℤ first *ℤ step ≡ pos d = (latitude_reach s north known).is in
        let same : north -ℤ minute *ℤ step ≡ pos d -ℤ pos (r * one_minute) =
        sym (less_both north (minute *ℤ step) (first *ℤ step))
        ∙ ap (λ (x : ℤ). (north -ℤ first *ℤ step) -ℤ x) (sym (difference_times minute first step) ∙ ap (λ (x : ℤ). x *ℤ step) minute_is)
        ∙ ap (λ (x : ℤ). x -ℤ pos (r * one_minute)) there in
        by_side d (apart d (r * one_minute) one_minute (rw same at far))
      where
        by_side : (d : ℕ) → (d + one_minute ≤ r * one_minute) ⊎ (r * one_minute + one_minute ≤ d) → Outside r d
        by_side d (inl low) = inl (omega arith, omega arith)
        by_side d (inr high) = inr (omega arith)
