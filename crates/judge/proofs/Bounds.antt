-- The bounds with either neighbour, g, in the shape of the code and as what they show. Assumes nothing.
use mathlib.Core.Path.{◌≡◌, sym, ◌∙◌}
use mathlib.Core.Bool.{Bool, true}
use mathlib.Core.List.{List}
use Prim.Native.Nat.{ℕ, ◌+◌, ◌-◌, ◌<◌, ◌≤◌}
use Rattle.refusals.proofs.Ladders.{where_below_lem, where_beyond}
use Rattle.rules.specs.declared.Figures.{Figures}
use Rattle.rules.specs.Latitude.{within_bounds}
use Rattle.latitude_rows.specs.Rows.{figures_at}
use Rattle.judge.specs.Judge.{bound_before, bound_after}

module _ (b : List ℕ) (r : ℕ) (f : Figures) where
  pub before_is : (g : Figures) (t : Bool) → 0 < r → g ≡ figures_at b (r - 1) → t ≡ within_bounds g f → t ≡ bound_before b r f
  unfolding bound_before
  before_is g t h e q = q ∙ rw e (sym (where_below_lem 0 r (within_bounds (figures_at b (r - 1)) f) true h))

  pub none_before : r ≤ 0 → true ≡ bound_before b r f
  unfolding bound_before
  none_before h = sym (where_beyond 0 r (within_bounds (figures_at b (r - 1)) f) true h)

  module _ (n : ℕ) where
    pub after_is : (g : Figures) (t : Bool) → r + 1 < n → g ≡ figures_at b (r + 1) → t ≡ within_bounds f g → t ≡ bound_after b n r f
    unfolding bound_after
    after_is g t h e q = q ∙ rw e (sym (where_below_lem (r + 1) n (within_bounds f (figures_at b (r + 1))) true h))

    pub none_after : n ≤ r + 1 → true ≡ bound_after b n r f
    unfolding bound_after
    none_after h = sym (where_beyond (r + 1) n (within_bounds f (figures_at b (r + 1))) true h)

    -- and what they show, where there is a neighbour
    pub bound_before_lem : bound_before b r f ≡ true → 0 < r → within_bounds (figures_at b (r - 1)) f ≡ true
    unfolding bound_before
    bound_before_lem e h = sym (where_below_lem 0 r (within_bounds (figures_at b (r - 1)) f) true h) ∙ e

    pub bound_after_lem : bound_after b n r f ≡ true → r + 1 < n → within_bounds f (figures_at b (r + 1)) ≡ true
    unfolding bound_after
    bound_after_lem e h = sym (where_below_lem (r + 1) n (within_bounds f (figures_at b (r + 1))) true h) ∙ e
