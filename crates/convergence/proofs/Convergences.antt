-- Convergence and scale on a sheet that passes: both fit 32 bits. Assumes nothing.
use mathlib.Core.Path.{◌≡◌, refl}
use mathlib.Core.Bool.{true}
use mathlib.Core.List.{List}
use Prim.Native.Nat.{ℕ, ◌≤◌}
use native.Mathlib.Nat.{le_trans}
use lib.Dec.{lit≤}
use lib.IntN.{ℤ, nat_abs}
use Rattle.steps.proofs.StepBounds.{convergence-most}
use Rattle.entries.specs.Layout.{scale, farthest}
use Rattle.sheet_check.specs.Check.{check_of}
use Rattle.tables.specs.Figures.{m_at, m_half, k_at, k_half}
use Rattle.tables.proofs.Ranges.{m_between}
use Rattle.extent.specs.Extent.{scale_known, northing_known}
use Rattle.extent.proofs.Reach.{scale-within, scale_span, northing-within}
use Rattle.convergence.specs.declared.Taken.{Taken}
use Rattle.convergence.specs.Grid.{convergence_at, grid_half, grid_at, taken_at, worked_of}

module _ (s : List ℕ) (xp y : ℤ) where
  -- the two halves are the whole
  pub taken-worked : worked_of (taken_at s xp y) xp ≡ grid_at s xp y
  unfolding worked_of taken_at grid_at convergence_at grid_half
  taken-worked = refl

  -- the figures, as they were read: n and k are the sizes of y and x'
  pub taken_is : {n k : ℕ} (f : Taken) → n ≡ nat_abs y → k ≡ nat_abs xp → f.m.value ≡ m_at s n → f.m.half ≡ m_half s n → f.k.value ≡ k_at s k → f.k.half ≡ k_half s k → f ≡ taken_at s xp y
  unfolding taken_at
  taken_is f e g m m' k k' = rw (← e, ← g, ← m, ← m', ← k, ← k')

  module _ (z : (check_of s).number ≡ 0) (there : scale_known s xp ≡ true) where
    pub xp_most : nat_abs xp ≤ farthest scale
    xp_most = le_trans (scale-within s xp there).most (scale_span s z)

    pub convergence-small : northing_known s y ≡ true → nat_abs (convergence_at s xp y) ≤ 21_474_837
    unfolding convergence_at m_at
    convergence-small known =
        convergence-most (m_at s (nat_abs y)) xp (m_between s z (nat_abs y) (northing-within s y known)).high (le_trans xp_most (lit≤ tt))
