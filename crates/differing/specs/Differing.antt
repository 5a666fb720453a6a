-- Which latitude rows of an old sheet, s, are different in a new one, t. b and c are their latitude bodies, of n and m rows; i is a row of the old, counted from 0.
use Rattle.std.specs.Prelude.{Bool, true, false, not, cond, ◌&&◌, ◌||◌, List, [], ◌∷◌, ◌++◌, ℕ, zero, suc, ℤ}
use Rattle.refusals.specs.Ladder.{need}
use Rattle.entries.specs.Layout.{latitude}
use Rattle.entries.specs.Entries.{rows_of, body_of}
use Rattle.rules.specs.declared.Figures.{Figures}
use Rattle.refusals.specs.Tests.{same_as}
use Rattle.latitude_rows.specs.Rows.{figures_at, row_at}
use Rattle.minute_row.specs.MinuteRow.{named_row, has_row}

-- g's four figures are f's.
unfoldable pub same_figures : Figures → Figures → Bool
same_figures f g = same_as f.y0 g.y0 && same_as f.h g.h && same_as f.v g.v && same_as f.a g.a

abbrev pub minute_at : List ℕ → ℕ → ℤ
minute_at b i = (row_at b i).minute

-- Row i differs: the new sheet has no row with its minute, or one with another y0, H, V or a. Δy, ΔH and ΔV are not looked at: "conversion uses the rows themselves", and a
-- correction reworks them in the row before the corrected one too.
unfoldable pub row_differs : List ℕ → List ℕ → ℕ → ℕ → Bool
row_differs b c m i = need (has_row c m (minute_at b i)) true (not (same_figures (figures_at b i) (figures_at c (named_row c (minute_at b i)))))

-- ---- all of them
-- The minute of row i where it differs, else nothing.
unfoldable pub minute_where : List ℕ → List ℕ → ℕ → ℕ → List ℤ
minute_where b c m i = cond (row_differs b c m i) (minute_at b i ∷ []) []

-- The minutes of those of the first i rows that differ, in the rows' order.
unfoldable pub differing : List ℕ → List ℕ → ℕ → ℕ → List ℤ
differing b c m zero = []
differing b c m (suc i) = differing b c m i ++ minute_where b c m i

unfoldable pub differing_rows : List ℕ → List ℕ → List ℤ
differing_rows s t = differing (body_of s latitude) (body_of t latitude) (rows_of t latitude) (rows_of s latitude)

-- f holds at one of the minutes.
unfoldable pub any_of : (ℤ → Bool) → List ℤ → Bool
any_of f [] = false
any_of f (minute ∷ minutes) = f minute || any_of f minutes

-- ---- one of them
-- The old sheet has a row with the minute, and that row differs.
unfoldable pub differs_at : List ℕ → ℕ → List ℕ → ℕ → ℤ → Bool
differs_at b n c m minute = has_row b n minute && row_differs b c m (named_row b minute)

-- The minute is one of `differing_rows s t`, where s passes (`proofs/Among.antt`).
unfoldable pub is_differing : List ℕ → List ℕ → ℤ → Bool
is_differing s t minute = differs_at (body_of s latitude) (rows_of s latitude) (body_of t latitude) (rows_of t latitude) minute
