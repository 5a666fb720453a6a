-- A latitude row has no fault exactly when its figures keep the rules. Assumes nothing.
use mathlib.Core.Path.{◌≡◌, sym, ◌∙◌}
use mathlib.Core.Bool.{true}
use mathlib.Core.List.{List}
use Prim.Native.Nat.{ℕ, ◌+◌, ◌<◌, ◌≤◌}
use native.Mathlib.Decide.{dec_lt}
use native.Mathlib.Omega.{arith}
use lib.IntN.{pos}
use Rattle.refusals.specs.Ladder.{need, where_below}
use Rattle.refusals.proofs.Ladders.{rung, past, where_below_lem, where_beyond}
use Rattle.rules.specs.Limits.{rises}
use Rattle.rules.specs.Latitude.{within_bounds, differences_of, no_differences, same_differences}
use Rattle.latitude_rows.specs.Rows.{figures_at, differences_at, row_at, row_in_range, pair_fault, last_fault, latitude_fault}

module _ (b : List ℕ) (n i : ℕ) where
  pub record LatitudeRow : Type 0 where
    pub range : row_in_range (row_at b i) ≡ true
    pub next_minute : i + 1 < n → rises (row_at b i).minute (row_at b (i + 1)).minute (pos 1) (pos 1) ≡ true
    pub bounds : i + 1 < n → within_bounds (figures_at b i) (figures_at b (i + 1)) ≡ true
    pub stated : i + 1 < n → same_differences (differences_at b i) (differences_of (figures_at b i) (figures_at b (i + 1))) ≡ true
    pub last : n ≤ i + 1 → same_differences (differences_at b i) no_differences ≡ true

  before_next : latitude_fault b n i ≡ 0 → i + 1 < n → pair_fault (row_at b i) (row_at b (i + 1)) ≡ 0
  unfolding latitude_fault
  before_next e h = sym (where_below_lem (i + 1) n _ (last_fault (row_at b i)) h) ∙ e

  at_last : latitude_fault b n i ≡ 0 → n ≤ i + 1 → last_fault (row_at b i) ≡ 0
  unfolding latitude_fault
  at_last e h = sym (where_beyond (i + 1) n (pair_fault (row_at b i) (row_at b (i + 1))) _ h) ∙ e

  -- the rungs after 6
  abbrev from_9 : ℕ
  from_9 = need (same_differences (differences_at b i) (differences_of (figures_at b i) (figures_at b (i + 1)))) 9 0

  abbrev from_8 : ℕ
  from_8 = need (within_bounds (figures_at b i) (figures_at b (i + 1))) 8 from_9

  abbrev from_7 : ℕ
  from_7 = need (rises (row_at b i).minute (row_at b (i + 1)).minute (pos 1) (pos 1)) 7 from_8

  pub latitude-row : latitude_fault b n i ≡ 0 → LatitudeRow
  unfolding pair_fault last_fault
  latitude-row e =
      record {
        range = in_range_lem (dec_lt (i + 1) n);
        next_minute = λ h. (seven h).0;
        bounds = λ h. (eight h).0;
        stated = λ h. (rung _ 9 0 (λ z. omega arith) (eight h).1).0;
        last = λ h. (rung _ 9 0 (λ z. omega arith) (rung _ 6 _ (λ z. omega arith) (at_last e h)).1).0;
      }
    where
      six : i + 1 < n → (row_in_range (row_at b i) ≡ true) × (from_7 ≡ 0)
      six h = rung _ 6 from_7 (λ z. omega arith) (before_next e h)

      seven : i + 1 < n → (rises (row_at b i).minute (row_at b (i + 1)).minute (pos 1) (pos 1) ≡ true) × (from_8 ≡ 0)
      seven h = rung _ 7 from_8 (λ z. omega arith) (six h).1

      eight : i + 1 < n → (within_bounds (figures_at b i) (figures_at b (i + 1)) ≡ true) × (from_9 ≡ 0)
      eight h = rung _ 8 from_9 (λ z. omega arith) (seven h).1

      in_range_lem : Dec (i + 1 < n) → row_in_range (row_at b i) ≡ true
      in_range_lem (yes h) = (six h).0
      in_range_lem (no h) = (rung _ 6 _ (λ z. omega arith) (at_last e (omega arith))).0

  pub latitude-passes : LatitudeRow → latitude_fault b n i ≡ 0
  unfolding latitude_fault pair_fault last_fault
  latitude-passes r = by_place (dec_lt (i + 1) n)
    where
      by_place : Dec (i + 1 < n) → where_below (i + 1) n (pair_fault (row_at b i) (row_at b (i + 1))) (last_fault (row_at b i)) ≡ 0
      by_place (yes h) =
          where_below_lem (i + 1) n (pair_fault (row_at b i) (row_at b (i + 1))) (last_fault (row_at b i)) h
          ∙ past 6 _ r.range
          ∙ past 7 _ (r.next_minute h)
          ∙ past 8 _ (r.bounds h)
          ∙ past 9 0 (r.stated h)
      by_place (no h) =
          where_beyond (i + 1) n (pair_fault (row_at b i) (row_at b (i + 1))) (last_fault (row_at b i)) (omega arith) ∙ past 6 _ r.range ∙ past 9 0 (r.last (omega arith))
