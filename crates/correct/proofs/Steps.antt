-- The correction's steps in the shape of the code: what a callee answered, against the definition. Assumes nothing.
use mathlib.Core.Path.{◌≡◌, sym, ◌∙◌}
use mathlib.Core.List.{List}
use Prim.Native.Nat.{ℕ, ◌+◌, ◌<◌, ◌≤◌}
use Rattle.refusals.proofs.Ladders.{where_below_lem, where_beyond}
use Rattle.rules.specs.declared.Figures.{Figures}
use Rattle.rules.specs.declared.Differences.{Differences}
use Rattle.rules.specs.Latitude.{differences_of, no_differences}
use Rattle.latitude_rows.specs.Rows.{figures_at}
use Rattle.writing.specs.Rows.{put_differences}
use Rattle.correct.specs.Correction.{worked_at, reworked}

-- ---- the differences; g is the row, h the next
module _ (b : List ℕ) (n i : ℕ) (d : Differences) where
  pub worked_with : (g h : Figures) → i + 1 < n → g ≡ figures_at b i → h ≡ figures_at b (i + 1) → d ≡ differences_of g h → d ≡ worked_at b n i
  unfolding worked_at
  worked_with g h l e q w = w ∙ rw (e, q) (sym (where_below_lem (i + 1) n (differences_of (figures_at b i) (figures_at b (i + 1))) no_differences l))

  pub worked-last : n ≤ i + 1 → d ≡ no_differences → d ≡ worked_at b n i
  unfolding worked_at
  worked-last l w = w ∙ sym (where_beyond (i + 1) n (differences_of (figures_at b i) (figures_at b (i + 1))) no_differences l)

  pub rework_is : (t : List ℕ) → d ≡ worked_at b n i → t ≡ put_differences b i d → t ≡ reworked b n i
  unfolding reworked
  rework_is t e q = q ∙ rw e
