-- Whether a row differs, in the shape of the code, and the latitude bodies as they are lent. Assumes nothing.
use mathlib.Core.Path.{◌≡◌, ◌∙◌}
use mathlib.Core.Bool.{Bool, true, false, not, ◌&&◌}
use mathlib.Core.List.{List}
use Prim.Native.Nat.{ℕ, ◌*◌}
use lib.IntN.{ℤ}
use Rattle.rounding.proofs.Tests.{both}
use Rattle.words.specs.Words.{word_at}
use Rattle.refusals.specs.Ladder.{need}
use Rattle.entries.specs.Layout.{latitude, width_of}
use Rattle.entries.specs.Entries.{rows_of, body_of}
use Rattle.rules.specs.declared.Figures.{Figures}
use Rattle.refusals.specs.Tests.{same_as}
use Rattle.refusals.proofs.Ranges.{same_true}
use Rattle.latitude_rows.specs.Rows.{figures_at}
use Rattle.minute_row.specs.MinuteRow.{named_row, has_row}
use Rattle.differing.specs.Differing.{same_figures, row_differs, differs_at, is_differing}

-- ---- one row
module _ (b c : List ℕ) (m i : ℕ) (minute : ℤ) (e : minute ≡ word_at b (width_of latitude * i)) where
  pub not_there : has_row c m minute ≡ false → true ≡ row_differs b c m i
  unfolding row_differs need
  not_there n = rw (← e, n)

  pub as-figures : has_row c m minute ≡ true → (j : ℕ) (f g : Figures) (r : Bool) → j ≡ named_row c minute → f ≡ figures_at b i → g ≡ figures_at c j → r ≡ not (same_figures f g) → r ≡ row_differs b c m i
  unfolding row_differs need
  as-figures n j f g r k u v q = q ∙ rw (← e, n, ← k, ← u, ← v)

-- ---- the minute's row
module _ (b : List ℕ) (n : ℕ) (c : List ℕ) (m : ℕ) (minute : ℤ) where
  pub no_row : has_row b n minute ≡ false → false ≡ differs_at b n c m minute
  unfolding differs_at
  no_row e = rw e

  pub of_row : has_row b n minute ≡ true → (i : ℕ) (r : Bool) → i ≡ named_row b minute → r ≡ row_differs b c m i → r ≡ differs_at b n c m minute
  unfolding differs_at
  of_row e i r k q = q ∙ rw (e, k)

-- ---- of two sheets: the bodies as they are lent
pub of_sheets : (s t b c : List ℕ) (n m : ℕ) (minute minute' : ℤ) (r : Bool) → b ≡ body_of s latitude → n ≡ rows_of s latitude → c ≡ body_of t latitude → m ≡ rows_of t latitude
    → minute' ≡ minute → r ≡ differs_at b n c m minute' → r ≡ is_differing s t minute
unfolding is_differing
of_sheets s t b c n m minute minute' r e f g h same q = q ∙ rw (e, f, g, h, same)

-- ---- the test of two rows' figures is that they are equal
pub same-figures : (f g : Figures) → same_figures f g ≡ true → f ≡ g
unfolding same_figures
same-figures f g h =
    let a = both (same_as f.y0 g.y0 && same_as f.h g.h && same_as f.v g.v) (same_as f.a g.a) h in
    let v = both (same_as f.y0 g.y0 && same_as f.h g.h) (same_as f.v g.v) a.0 in
    let y = both (same_as f.y0 g.y0) (same_as f.h g.h) v.0 in
    rw (same_true f.y0 g.y0 y.0, same_true f.h g.h y.1, same_true f.v g.v v.1, same_true f.a g.a a.1)
