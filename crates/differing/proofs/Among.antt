-- The minutes at which a sheet that passes differs are those of its differing rows; so where f holds at no minute but two, these two alone are to be asked. Assumes nothing.
use mathlib.Core.Path.{◌≡◌, refl, sym, ap, ◌∙◌}
use mathlib.Core.Bool.{Bool, true, false, cond, ◌&&◌, ◌||◌}
use mathlib.Core.List.{List, [], ◌∷◌, ◌++◌}
use mathlib.Core.Logic.{◌⊎◌, inl, inr, ⊎_elim}
use Prim.Native.Nat.{ℕ, zero, suc, ◌-◌, ◌<◌}
use native.Mathlib.Decide.{ℕ_discrete}
use native.Mathlib.Omega.{arith}
use lib.IntN.{ℤ, pos}
use Rattle.rounding.proofs.Tests.{both, never}
use Rattle.entries.specs.Layout.{latitude}
use Rattle.entries.specs.Entries.{rows_of, body_of}
use Rattle.refusals.specs.Tests.{in_range}
use Rattle.refusals.proofs.Ranges.{same_true}
use Rattle.sheet_check.specs.Check.{check_of}
use Rattle.tables.proofs.Ranges.{latitude-some}
use Rattle.minute_row.specs.MinuteRow.{from_first_minute, named_row, has_row}
use Rattle.minute_row.proofs.Place.{row_there}
use Rattle.minute_row.proofs.Minutes.{each_named}
use Rattle.differing.specs.Differing.{minute_at, row_differs, minute_where, differing, differing_rows, any_of, differs_at, is_differing}

-- ---- of tests
or_assoc : (a b c : Bool) → a || (b || c) ≡ (a || b) || c
or_assoc true b c = refl
or_assoc false b c = refl

or_left : (a b : Bool) → a ≡ true → a || b ≡ true
or_left a b h = rw h

or_right : (a b : Bool) → b ≡ true → a || b ≡ true
or_right true b h = refl
or_right false b h = h

or_cases : (a b : Bool) → a || b ≡ true → (a ≡ true) ⊎ (b ≡ true)
or_cases true b h = inl refl
or_cases false b h = inr h

and_true : {a b : Bool} → a ≡ true → b ≡ true → a && b ≡ true
and_true h k = rw (h, k)

alike : (a b : Bool) → (a ≡ true → b ≡ true) → (b ≡ true → a ≡ true) → a ≡ b
alike true b h k = sym (h refl)
alike false true h k = k refl
alike false false h k = refl

module _ (f : ℤ → Bool) where
  any_both : (xs ys : List ℤ) → any_of f (xs ++ ys) ≡ any_of f xs || any_of f ys
  unfolding any_of
  any_both [] ys = refl
  any_both (m ∷ xs) ys = ap (λ (r : Bool). f m || r) (any_both xs ys) ∙ or_assoc (f m) (any_of f xs) (any_of f ys)

  -- ---- of the first n rows
  module _ (b c : List ℕ) (m : ℕ) where
    own : (i : ℕ) → row_differs b c m i ≡ true → f (minute_at b i) ≡ true → any_of f (minute_where b c m i) ≡ true
    unfolding minute_where any_of
    own i d h = rw (d, h)

    own_from : (i : ℕ) → any_of f (minute_where b c m i) ≡ true → (row_differs b c m i ≡ true) × (f (minute_at b i) ≡ true)
    unfolding minute_where any_of
    own_from i h = pick (row_differs b c m i) (f (minute_at b i)) h
      where
        pick : (d y : Bool) → any_of f (cond d (minute_at b i ∷ []) []) ≡ true → (d ≡ true) × (f (minute_at b i) ≡ true)
        pick true y h = (refl, ⊎_elim (λ e. e) never (or_cases (f (minute_at b i)) false h))
        pick false y h = never h

    row_in : (n i : ℕ) → i < n → row_differs b c m i ≡ true → f (minute_at b i) ≡ true → any_of f (differing b c m n) ≡ true
    unfolding differing
    row_in zero i l d h = absurd (omega arith)
    row_in (suc n) i l d h = any_both (differing b c m n) (minute_where b c m n) ∙ pick (ℕ_discrete i n) (λ k. row_in n i k d h)
      where
        pick : Dec (i ≡ n) → (i < n → any_of f (differing b c m n) ≡ true) → any_of f (differing b c m n) || any_of f (minute_where b c m n) ≡ true
        pick (yes e) earlier = or_right (any_of f (differing b c m n)) (any_of f (minute_where b c m n)) (rw e at (own i d h))
        pick (no e) earlier = or_left (any_of f (differing b c m n)) (any_of f (minute_where b c m n)) (earlier (omega arith))

    abbrev Found : ℕ → Type 0
    Found n = (i : ℕ) × (i < n) × (row_differs b c m i ≡ true) × (f (minute_at b i) ≡ true)

    row_from : (n : ℕ) → any_of f (differing b c m n) ≡ true → Found n
    unfolding differing any_of
    row_from zero h = never h
    row_from (suc n) h = ⊎_elim (λ e. later n (row_from n e)) (λ e. (n, omega arith, (own_from n e).0, (own_from n e).1)) (or_cases _ _ (sym (any_both (differing b c m n) (minute_where b c m n)) ∙ h))
      where
        later : (n : ℕ) → Found n → Found (suc n)
        later n r = (r.0, omega (arith, r.1), r.2, r.3)

-- ---- of two sheets
module _ (s t : List ℕ) (z : (check_of s).number ≡ 0) (f : ℤ → Bool) where
  -- a minute at which they differ is one of them
  pub among : (minute : ℤ) → is_differing s t minute ≡ true → f minute ≡ true → any_of f (differing_rows s t) ≡ true
  unfolding is_differing differs_at differing_rows has_row
  among minute d h =
      let b = body_of s latitude in
      let parts = both (has_row b (rows_of s latitude) minute) _ d in
      let own = same_true (minute_at b (named_row b minute)) minute (both (in_range (pos 0) (from_first_minute b minute) (pos (rows_of s latitude - 1))) _ parts.0).1 in
      row_in f b (body_of t latitude) (rows_of t latitude) (rows_of s latitude) (named_row b minute) (row_there b (rows_of s latitude) minute parts.0 (latitude-some s z)) parts.1 (rw own h)

  -- each of them is a minute at which they differ
  pub among-from : any_of f (differing_rows s t) ≡ true → (minute : ℤ) × (is_differing s t minute ≡ true) × (f minute ≡ true)
  unfolding is_differing differs_at differing_rows
  among-from h =
      let r = row_from f (body_of s latitude) (body_of t latitude) (rows_of t latitude) (rows_of s latitude) h in
      let named = each_named s z r.0 r.1 in
      (minute_at (body_of s latitude) r.0, and_true named.0 (rw named.1 r.2), r.3)

  -- f holds at two minutes at most
  abbrev asked : ℤ → Bool
  asked minute = is_differing s t minute && f minute

  asked_in : (minute : ℤ) → asked minute ≡ true → any_of f (differing_rows s t) ≡ true
  asked_in minute h = let p = both (is_differing s t minute) (f minute) h in among minute p.0 p.1

  pub one_of_two : (low high : ℤ) → ((minute : ℤ) → f minute ≡ true → (minute ≡ low) ⊎ (minute ≡ high)) → asked low || asked high ≡ any_of f (differing_rows s t)
  one_of_two low high only = alike _ _ (λ h. ⊎_elim (asked_in low) (asked_in high) (or_cases _ _ h)) back
    where
      back : any_of f (differing_rows s t) ≡ true → asked low || asked high ≡ true
      back h =
          let r = among-from h in
          let d = and_true r.1 r.2 in
          ⊎_elim (λ e. or_left (asked low) (asked high) (rw e at d)) (λ e. or_right (asked low) (asked high) (rw e at d)) (only r.0 r.2)
