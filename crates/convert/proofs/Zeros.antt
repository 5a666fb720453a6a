-- A refused conversion carries zeros and no half: of each of the three, on any bytes. Assumes nothing.
use mathlib.Core.Path.{◌≡◌, refl}
use mathlib.Core.Bool.{Bool, true, false, cond}
use mathlib.Core.List.{List}
use Prim.Native.Nat.{ℕ}
use lib.Dec.{eqb}
use lib.IntN.{ℤ, pos}
use Rattle.refusals.specs.Ladder.{need, or_else}
use Rattle.forward.specs.Forward.{forward_of, plane_at, plane_from}
use Rattle.inverse.specs.Inverse.{inverse_of, from_reduced, from_distance, geographic_at}
use Rattle.convergence.specs.Grid.{grid_of, grid_at}
use Rattle.convert.specs.Conversions.{geographic_to_plane, plane_to_geographic, convergence_and_scale}

-- ---- "A refused conversion carries zeros", and no half: a ladder's answer, where each of its rungs does
pub record Zeroed {R : Type 0} (number : R → ℕ) (one two : R → ℤ) (half : R → Bool) (r : R) : Type 0 where
  pub zeros : (number r ≡ 0 → ⊥) → (one r ≡ pos 0) × (two r ≡ pos 0) × (half r ≡ false)

module _ {R : Type 0} {number : R → ℕ} {one two : R → ℤ} {half : R → Bool} where
  of_need : (t : Bool) {x rest : R} → Zeroed number one two half x → Zeroed number one two half rest → Zeroed number one two half (need t x rest)
  unfolding need
  of_need true zx zr = zr
  of_need false zx zr = zx

  of_or_else : {x rest : R} → Zeroed number one two half x → Zeroed number one two half rest → Zeroed number one two half (or_else number x rest)
  unfolding or_else
  of_or_else {x} {rest} zx zr = go (eqb (number x) 0)
    where
      go : (b : Bool) → Zeroed number one two half (cond b rest x)
      go true = zr
      go false = zx

  carried : {r : R} → one r ≡ pos 0 → two r ≡ pos 0 → half r ≡ false → Zeroed number one two half r
  carried e f g = record { zeros = λ h. (e, f, g) }

  accepted : {r : R} → number r ≡ 0 → Zeroed number one two half r
  accepted e = record { zeros = λ h. absurd (h e) }

distance_zeros : (s : List ℕ) (xp : ℤ) (t : ℕ) (met : Bool)
    → Zeroed (λ r. r.number) (λ r. r.latitude) (λ r. r.longitude) (λ r. r.half) (from_distance s xp t met)
unfolding from_distance geographic_at
distance_zeros s xp t met = of_need _ (carried refl refl refl) (of_need _ (carried refl refl refl) (accepted refl))

-- each conversion
module _ (s : List ℕ) (a b : ℤ) where
  pub plane_zeros : Zeroed (λ r. r.number) (λ r. r.x) (λ r. r.y) (λ r. r.half) (geographic_to_plane s a b)
  unfolding geographic_to_plane forward_of plane_at plane_from
  plane_zeros = of_or_else (carried refl refl refl) (of_need _ (carried refl refl refl) (of_need _ (carried refl refl refl) (accepted refl)))

  pub geographic_zeros : Zeroed (λ r. r.number) (λ r. r.latitude) (λ r. r.longitude) (λ r. r.half) (plane_to_geographic s a b)
  unfolding plane_to_geographic inverse_of from_reduced
  geographic_zeros =
      of_or_else (carried refl refl refl)
      (of_need _ (carried refl refl refl) (of_need _ (carried refl refl refl) (of_need _ (carried refl refl refl) (distance_zeros s _ _ _))))

  pub grid_zeros : Zeroed (λ r. r.number) (λ r. r.convergence) (λ r. r.scale) (λ r. r.half) (convergence_and_scale s a b)
  unfolding convergence_and_scale grid_of grid_at
  grid_zeros = of_or_else (carried refl refl refl) (of_need _ (carried refl refl refl) (of_need _ (carried refl refl refl) (accepted refl)))
