-- A conversion on a sheet that passes the check is what comes after the check, and on another sheet the check's number. Assumes nothing.
use mathlib.Core.Path.{◌≡◌, refl, sym, ◌∙◌}
use mathlib.Core.List.{List}
use Prim.Native.Nat.{ℕ}
use lib.IntN.{ℤ}
use Rattle.refusals.proofs.Ladders.{refused, passed_on}
use Rattle.sheet_check.specs.Check.{check_of}
use Rattle.forward.specs.Forward.{PlaneTold}
use Rattle.inverse.specs.Inverse.{GeographicTold}
use Rattle.convergence.specs.Grid.{GridTold}
use Rattle.forward.specs.Forward.{no_plane, forward_of}
use Rattle.inverse.specs.Inverse.{no_geographic, inverse_of}
use Rattle.convergence.specs.Grid.{no_grid, grid_of}
use Rattle.convert.specs.Conversions.{after_check, geographic_to_plane, plane_to_geographic, convergence_and_scale}

-- ---- `refuse` carries a number
module _ {A : Type 0} (number : A → ℕ) (refuse : ℕ → A) (carries : (n : ℕ) → number (refuse n) ≡ n) (s : List ℕ) (rest : A) where
  pub after_pass : (check_of s).number ≡ 0 → after_check number refuse s rest ≡ rest
  after_pass z = sym (passed_on number (refuse (check_of s).number) rest (refuse (check_of s).number) refl rest (carries (check_of s).number ∙ z) refl)

  pub on_pass : (r : A) → (check_of s).number ≡ 0 → r ≡ rest → r ≡ after_check number refuse s rest
  on_pass r z e = e ∙ sym (after_pass z)

  pub after-fault : (n : ℕ) → n ≡ (check_of s).number → (n ≡ 0 → ⊥) → refuse n ≡ after_check number refuse s rest
  after-fault n e h = refused number (refuse (check_of s).number) rest (refuse n) (rw e) (λ k. h (sym (carries n) ∙ k))

-- ---- each conversion
module _ (s : List ℕ) (a b : ℤ) where
  pub forward_on_pass : (check_of s).number ≡ 0 → geographic_to_plane s a b ≡ forward_of s a b
  unfolding geographic_to_plane
  forward_on_pass z = after_pass (λ r. r.number) no_plane (λ n. refl) s (forward_of s a b) z

  pub forward-passes : (r : PlaneTold) → (check_of s).number ≡ 0 → r ≡ forward_of s a b → r ≡ geographic_to_plane s a b
  unfolding geographic_to_plane
  forward-passes r z e = on_pass (λ r. r.number) no_plane (λ n. refl) s (forward_of s a b) r z e

  pub forward-refused : (n : ℕ) → n ≡ (check_of s).number → (n ≡ 0 → ⊥) → no_plane n ≡ geographic_to_plane s a b
  unfolding geographic_to_plane
  forward-refused n e h = after-fault (λ r. r.number) no_plane (λ n. refl) s (forward_of s a b) n e h

  pub inverse_on_pass : (check_of s).number ≡ 0 → plane_to_geographic s a b ≡ inverse_of s a b
  unfolding plane_to_geographic
  inverse_on_pass z = after_pass (λ r. r.number) no_geographic (λ n. refl) s (inverse_of s a b) z

  pub inverse-passes : (r : GeographicTold) → (check_of s).number ≡ 0 → r ≡ inverse_of s a b → r ≡ plane_to_geographic s a b
  unfolding plane_to_geographic
  inverse-passes r z e = on_pass (λ r. r.number) no_geographic (λ n. refl) s (inverse_of s a b) r z e

  pub inverse-refused : (n : ℕ) → n ≡ (check_of s).number → (n ≡ 0 → ⊥) → no_geographic n ≡ plane_to_geographic s a b
  unfolding plane_to_geographic
  inverse-refused n e h = after-fault (λ r. r.number) no_geographic (λ n. refl) s (inverse_of s a b) n e h

  pub grid_on_pass : (check_of s).number ≡ 0 → convergence_and_scale s a b ≡ grid_of s a b
  unfolding convergence_and_scale
  grid_on_pass z = after_pass (λ r. r.number) no_grid (λ n. refl) s (grid_of s a b) z

  pub grid-passes : (r : GridTold) → (check_of s).number ≡ 0 → r ≡ grid_of s a b → r ≡ convergence_and_scale s a b
  unfolding convergence_and_scale
  grid-passes r z e = on_pass (λ r. r.number) no_grid (λ n. refl) s (grid_of s a b) r z e

  pub grid-refused : (n : ℕ) → n ≡ (check_of s).number → (n ≡ 0 → ⊥) → no_grid n ≡ convergence_and_scale s a b
  unfolding convergence_and_scale
  grid-refused n e h = after-fault (λ r. r.number) no_grid (λ n. refl) s (grid_of s a b) n e h
