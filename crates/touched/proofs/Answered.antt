-- Each question on a sheet that passes the check is what comes after the check, and on another sheet the check's number. Assumes nothing.
use mathlib.Core.Path.{◌≡◌, refl, sym, ap, ◌∙◌}
use mathlib.Core.Bool.{Bool, true, false}
use mathlib.Core.List.{List}
use Prim.Native.Nat.{ℕ, ◌<◌}
use lib.IntN.{ℤ}
use Rattle.std.proofs.Common.{Option, Some, None}
use Rattle.std.specs.Option.{MatchOption, is_some}
use Rattle.entries.specs.Layout.{latitude}
use Rattle.entries.specs.Entries.{rows_of}
use Rattle.refusals.specs.Ladder.{need}
use Rattle.refusals.proofs.Ladders.{stop, go}
use Rattle.sheet_check.specs.Check.{check_of}
use Rattle.convert.proofs.Checked.{on_pass, after-fault}
use Rattle.touched.specs.Touched.{touch, no_touch, has_minute, row_named, forward_touched, inverse_touched, geographic_touched, plane_touched}

-- whether a row was found is whether there is one
pub found_is : (s : List ℕ) (minute : ℤ) (o : Option ℕ)
    → MatchOption o (has_minute s minute ≡ false) (λ r. (has_minute s minute ≡ true) × (r ≡ row_named s minute) × (r < rows_of s latitude)) → has_minute s minute ≡ is_some o
found_is s minute None h = h
found_is s minute (Some r) h = h.0

module _ (s : List ℕ) (minute a b : ℤ) where
  -- ---- the check's number
  pub geographic-refused : (n : ℕ) → n ≡ (check_of s).number → (n ≡ 0 → ⊥) → no_touch n ≡ geographic_touched s minute a b
  unfolding geographic_touched
  geographic-refused n e h =
      after-fault (λ t. t.number) no_touch (λ n. refl) s (need (has_minute s minute) (no_touch 16) (touch 0 (forward_touched s minute a b))) n e h

  pub plane-refused : (n : ℕ) → n ≡ (check_of s).number → (n ≡ 0 → ⊥) → no_touch n ≡ plane_touched s minute a b
  unfolding plane_touched
  plane-refused n e h =
      after-fault (λ t. t.number) no_touch (λ n. refl) s (need (has_minute s minute) (no_touch 16) (touch 0 (inverse_touched s (row_named s minute) a b))) n e h

  -- ---- past the check: no row has the minute, or one has
  module _ (z : (check_of s).number ≡ 0) where
    pub geographic-none : has_minute s minute ≡ false → no_touch 16 ≡ geographic_touched s minute a b
    unfolding geographic_touched
    geographic-none h = on_pass (λ t. t.number) no_touch (λ n. refl) s _ (no_touch 16) z (stop (has_minute s minute) false (no_touch 16) _ (sym h) refl)

    pub geographic-passes : has_minute s minute ≡ true → (t : Bool) → t ≡ forward_touched s minute a b → touch 0 t ≡ geographic_touched s minute a b
    unfolding geographic_touched
    geographic-passes h t q = on_pass (λ t. t.number) no_touch (λ n. refl) s _ (touch 0 t) z (go (has_minute s minute) true (no_touch 16) (touch 0 t) _ (sym h) refl (ap (touch 0) q))

    pub plane-none : has_minute s minute ≡ false → no_touch 16 ≡ plane_touched s minute a b
    unfolding plane_touched
    plane-none h = on_pass (λ t. t.number) no_touch (λ n. refl) s _ (no_touch 16) z (stop (has_minute s minute) false (no_touch 16) _ (sym h) refl)

    pub plane-passes : has_minute s minute ≡ true → (t : Bool) (r : ℕ) → r ≡ row_named s minute → t ≡ inverse_touched s r a b → touch 0 t ≡ plane_touched s minute a b
    unfolding plane_touched
    plane-passes h t r k q =
        on_pass (λ t. t.number) no_touch (λ n. refl) s _ (touch 0 t) z
        (go (has_minute s minute) true (no_touch 16) (touch 0 t) _ (sym h) refl (ap (touch 0) (q ∙ ap (λ (r : ℕ). inverse_touched s r a b) k)))
