-- "Convergence and scale", at a plane point. x and y in 0.01 ft, Δα in 0.1″, k in 10⁻⁷. s is the sheet, x' is written xp.
use Rattle.std.specs.Prelude.{Bool, false, ◌||◌, List, ℕ, ℤ, pos, nat_abs, Result, Ok, Err}
use Rattle.refusals.specs.declared.Refusal.{Refusal}
use Rattle.refusals.specs.Numbers.{number_of}
use Rattle.steps.specs.Steps.{convergence, convergence_half}
use Rattle.refusals.specs.Ladder.{need}
use Rattle.tables.specs.Figures.{m_at, m_half, k_at, k_half}
use Rattle.extent.specs.Extent.{x_prime, scale_known, northing_known}
use Rattle.convergence.specs.declared.Grid.{Grid}
use Rattle.convergence.specs.declared.Taken.{Taken}

-- The answer, as it is told: number, Δα in 0.1″, k in 10⁻⁷, and whether "some rounding in it met a half (no in a refusal)". "A refused conversion carries zeros."
pub record GridTold : Type 0 where
  pub number : ℕ
  pub convergence : ℤ
  pub scale : ℤ
  pub half : Bool

abbrev pub grid : ℕ → ℤ → ℤ → Bool → GridTold
grid number convergence scale half = record { number = number; convergence = convergence; scale = scale; half = half }

abbrev pub no_grid : ℕ → GridTold
no_grid number = grid number (pos 0) (pos 0) false

-- What code answers, as it is told.
abbrev pub grid_told : Result Grid Refusal → GridTold
grid_told (Ok g) = grid 0 g.convergence g.scale g.half
grid_told (Err r) = no_grid (number_of r)

-- "M is read at y, Δα = M·x' to 0.1″"
unfoldable pub convergence_at : List ℕ → ℤ → ℤ → ℤ
convergence_at s xp y = convergence (m_at s (nat_abs y)) xp

-- Some rounding met a half: M, k or Δα.
unfoldable pub grid_half : List ℕ → ℤ → ℤ → Bool
grid_half s xp y = m_half s (nat_abs y) || k_half s (nat_abs xp) || convergence_half (m_at s (nat_abs y)) xp

-- The grid at the point: "k is read at |x'|".
unfoldable pub grid_at : List ℕ → ℤ → ℤ → GridTold
grid_at s xp y = grid 0 (convergence_at s xp y) (k_at s (nat_abs xp)) (grid_half s xp y)

-- "convergence and scale 12, 13", on a sheet that passes
unfoldable pub grid_of : List ℕ → ℤ → ℤ → GridTold
grid_of s x y =
    need (scale_known s (x_prime s x)) (no_grid 12)
    (need (northing_known s y) (no_grid 13)
    (grid_at s (x_prime s x) y))

-- ---- the same in two parts: reading the figures, and working on figures alone
unfoldable pub taken_at : List ℕ → ℤ → ℤ → Taken
taken_at s xp y = record { m = record { value = m_at s (nat_abs y); half = m_half s (nat_abs y) }; k = record { value = k_at s (nat_abs xp); half = k_half s (nat_abs xp) } }

-- That it is `grid_at` of a sheet's figures, `Convergences.taken-worked` proves.
unfoldable pub worked_of : Taken → ℤ → GridTold
worked_of f xp = grid 0 (convergence f.m.value xp) f.k.value (f.m.half || f.k.half || convergence_half f.m.value xp)
