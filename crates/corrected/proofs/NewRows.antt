-- The rows of a latitude body after row r of n was rewritten with f: where the body's rows have no fault, the rewritten body's have none exactly when f is in range and keeps its
-- bounds with both neighbours. Assumes nothing.
use mathlib.Core.Path.{◌≡◌, refl, sym}
use mathlib.Core.Bool.{Bool, true, ◌&&◌}
use mathlib.Core.List.{List}
use Prim.Native.Nat.{ℕ, ◌+◌, ◌-◌, ◌*◌, ◌<◌, ◌≤◌}
use native.Mathlib.Decide.{ℕ_discrete, dec_lt}
use native.Mathlib.Omega.{arith}
use lib.IntN.{pos}
use lib.ListN.{length}
use Rattle.rounding.proofs.Tests.{both}
use Rattle.refusals.proofs.Ladders.{where_below_lem, where_beyond}
use Rattle.entries.specs.Layout.{latitude, row_bytes}
use Rattle.rules.specs.declared.Figures.{Figures}
use Rattle.rules.specs.declared.Differences.{Differences}
use Rattle.refusals.specs.Tests.{in_range}
use Rattle.rules.specs.Latitude.{figures_in_range, within_bounds, differences_of, no_differences, same_differences}
use Rattle.refusals.proofs.Ranges.{same_self}
use Rattle.latitude_rows.specs.Rows.{figures_at, differences_at, row_at, row_in_range}
use Rattle.latitude_rows.proofs.PassingRows.{LatitudeRow}
use Rattle.judge.specs.Judge.{bound_before, bound_after}
use Rattle.correct.specs.Correction.{worked_at, rewritten}
use Rattle.writing.proofs.RowWords.{FiguresFit, DifferencesFit, figures_fit, differences_fit, none_fit}
use Rattle.judge.proofs.Bounds.{before_is, none_before, after_is, none_after, bound_before_lem, bound_after_lem}
use Rattle.correct.proofs.Rewritten.{minutes_stay, figures_stay, figures_new, differences_stay, differences_new, differences_before}

-- differences are their own
same-as_itself : (d : Differences) → same_differences d d ≡ true
unfolding same_differences
same-as_itself d = rw (same_self d.y, same_self d.h, same_self d.v)

both_hold : {p q : Bool} → p ≡ true → q ≡ true → (p && q) ≡ true
both_hold e h = rw (e, h)

module _ (b : List ℕ) (n r : ℕ) (f : Figures) (long : row_bytes latitude * n ≤ length b) (there : r < n) where
  abbrev new : List ℕ
  new = rewritten b n r f

  -- ---- the differences that belong to a row of the new body
  worked-next : (i : ℕ) → i + 1 < n → worked_at new n i ≡ differences_of (figures_at new i) (figures_at new (i + 1))
  unfolding worked_at
  worked-next i h = where_below_lem (i + 1) n (differences_of (figures_at new i) (figures_at new (i + 1))) no_differences h

  worked-none : (i : ℕ) → n ≤ i + 1 → worked_at new n i ≡ no_differences
  unfolding worked_at
  worked-none i h = where_beyond (i + 1) n (differences_of (figures_at new i) (figures_at new (i + 1))) no_differences h

  -- ---- f keeps the rules: no row of the new body has a fault
  module _ (rows : (i : ℕ) → i < n → LatitudeRow b n i) (range : figures_in_range f ≡ true) (before : bound_before b r f ≡ true) (after : bound_after b n r f ≡ true) where
    here : figures_at new r ≡ f
    here = figures_new b n r f long there (figures_fit f range)

    bounds_new : (i : ℕ) → i + 1 < n → within_bounds (figures_at new i) (figures_at new (i + 1)) ≡ true
    bounds_new i h = pick (ℕ_discrete i r) (ℕ_discrete (i + 1) r)
      where
        pick : Dec (i ≡ r) → Dec (i + 1 ≡ r) → within_bounds (figures_at new i) (figures_at new (i + 1)) ≡ true
        pick (yes e) q = rw (e, here, figures_stay b n r f (r + 1) (omega arith)) (bound_after_lem b r f n after (rw e at h))
        pick (no p) (yes e) =
            let at : r - 1 ≡ i = omega arith in
            rw (e, here, figures_stay b n r f i p, ← at) (bound_before_lem b r f n before (omega arith))
        pick (no p) (no q) = rw (figures_stay b n r f i p, figures_stay b n r f (i + 1) q) ((rows i (omega arith)).bounds h)

    -- a row whose differences were worked again
    stated_by : (i : ℕ) → i + 1 < n → (DifferencesFit (worked_at new n i) → differences_at new i ≡ worked_at new n i)
        → same_differences (differences_at new i) (differences_of (figures_at new i) (figures_at new (i + 1))) ≡ true
    stated_by i h worked =
        let fit : DifferencesFit (worked_at new n i) = rw (worked-next i h) (differences_fit (figures_at new i) (figures_at new (i + 1)) (bounds_new i h)) in
        rw (worked fit, worked-next i h) (same-as_itself (differences_of (figures_at new i) (figures_at new (i + 1))))

    stated_new : (i : ℕ) → i + 1 < n → same_differences (differences_at new i) (differences_of (figures_at new i) (figures_at new (i + 1))) ≡ true
    stated_new i h = pick (ℕ_discrete i r) (ℕ_discrete (i + 1) r)
      where
        pick : Dec (i ≡ r) → Dec (i + 1 ≡ r) → same_differences (differences_at new i) (differences_of (figures_at new i) (figures_at new (i + 1))) ≡ true
        pick (yes e) q = rw e (stated_by r (rw e at h) (differences_new b n r f long there (figures_fit f range)))
        pick (no p) (yes e) = stated_by i h (differences_before b n r f long there (figures_fit f range) i e)
        pick (no p) (no q) =
            rw (differences_stay b n r f i p q, figures_stay b n r f i p, figures_stay b n r f (i + 1) q) ((rows i (omega arith)).stated h)

    last_new : (i : ℕ) → i < n → n ≤ i + 1 → same_differences (differences_at new i) no_differences ≡ true
    last_new i h l = pick (ℕ_discrete i r)
      where
        pick : Dec (i ≡ r) → same_differences (differences_at new i) no_differences ≡ true
        pick (yes e) =
            let none : worked_at new n r ≡ no_differences = worked-none r (rw e at l) in
            rw (e, differences_new b n r f long there (figures_fit f range) (rw none none_fit), none) (same-as_itself no_differences)
        pick (no p) = rw (differences_stay b n r f i p (λ q. omega arith)) ((rows i h).last l)

    ranges : (i : ℕ) → i < n → (in_range (pos 0) (row_at b i).minute (pos 5_400) ≡ true) × (figures_in_range (figures_at b i) ≡ true)
    unfolding row_in_range
    ranges i h = both (in_range (pos 0) (row_at b i).minute (pos 5_400)) (figures_in_range (figures_at b i)) (rows i h).range

    range_new : (i : ℕ) → i < n → row_in_range (row_at new i) ≡ true
    unfolding row_in_range
    range_new i h = pick (ℕ_discrete i r)
      where
        minute : in_range (pos 0) (row_at new i).minute (pos 5_400) ≡ true
        minute = rw (minutes_stay b n r f i) (ranges i h).0

        pick : Dec (i ≡ r) → (in_range (pos 0) (row_at new i).minute (pos 5_400) && figures_in_range (figures_at new i)) ≡ true
        pick (yes e) = both_hold minute (rw (e, here) range)
        pick (no p) = both_hold minute (rw (figures_stay b n r f i p) (ranges i h).1)

    pub new_rows : (i : ℕ) → i < n → LatitudeRow new n i
    new_rows i h =
        record {
          range = range_new i h;
          next_minute = λ l. rw (minutes_stay b n r f i, minutes_stay b n r f (i + 1)) ((rows i h).next_minute l);
          bounds = bounds_new i;
          stated = stated_new i;
          last = last_new i h;
        }

  -- ---- no row of the new body has a fault: f keeps the rules
  module _ (fit : FiguresFit f) (rows : (i : ℕ) → i < n → LatitudeRow new n i) where
    read : figures_at new r ≡ f
    read = figures_new b n r f long there fit

    pub range_kept : figures_in_range f ≡ true
    unfolding row_in_range
    range_kept = rw read at (both (in_range (pos 0) (row_at new r).minute (pos 5_400)) (figures_in_range (figures_at new r)) (rows r there).range).1

    pub before_kept : bound_before b r f ≡ true
    before_kept = pick (dec_lt 0 r)
      where
        pick : Dec (0 < r) → bound_before b r f ≡ true
        pick (yes h) =
            let at : r - 1 + 1 ≡ r = omega arith in
            let held = (rows (r - 1) (omega arith)).bounds (omega arith) in
            sym (before_is b r f (figures_at b (r - 1)) true h refl (sym (rw (at, read, figures_stay b n r f (r - 1) (omega arith)) at held)))
        pick (no h) = sym (none_before b r f (omega arith))

    pub after_kept : bound_after b n r f ≡ true
    after_kept = pick (dec_lt (r + 1) n)
      where
        pick : Dec (r + 1 < n) → bound_after b n r f ≡ true
        pick (yes h) = sym (after_is b r f n (figures_at b (r + 1)) true h refl (sym (rw (read, figures_stay b n r f (r + 1) (omega arith)) at ((rows r there).bounds h))))
        pick (no h) = sym (none_after b r f n (omega arith))
