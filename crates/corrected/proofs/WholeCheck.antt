-- A sheet that passes, with row r of its latitude body rewritten with f, passes the whole check exactly when f is in range and keeps its bounds with both neighbours. Assumes
-- nothing.
use mathlib.Core.Path.{◌≡◌, ◌∙◌}
use mathlib.Core.Bool.{true}
use mathlib.Core.List.{List}
use Prim.Native.Nat.{ℕ, ◌*◌, ◌<◌, ◌≤◌}
use native.Mathlib.Decide.{ℕ_discrete}
use native.Mathlib.Omega.{arith}
use lib.Dec.{lit≤}
use lib.ListN.{length}
use Rattle.refusals.specs.Ladder.{where_is}
use Rattle.entries.specs.Layout.{latitude, last_kind, row_bytes}
use Rattle.entries.specs.Entries.{rows_of, body_of}
use Rattle.contents.specs.Contents.{verdict, contents_of}
use Rattle.rules.specs.declared.Figures.{Figures}
use Rattle.rules.specs.Latitude.{figures_in_range}
use Rattle.latitude_rows.specs.Rows.{latitude_fault}
use Rattle.latitude_rows.proofs.PassingRows.{LatitudeRow, latitude-passes}
use Rattle.sheet_check.specs.Check.{row_fault, check_of}
use Rattle.sheet_check.proofs.Sound.{passes_sound, sound_passes, latitude_rows}
use Rattle.sheet_check.proofs.Known.{contents-none}
use Rattle.judge.specs.Judge.{bound_before, bound_after}
use Rattle.correct.specs.Correction.{rewritten, with_row}
use Rattle.writing.proofs.RowWords.{FiguresFit}
use Rattle.corrected.proofs.WithRow.{body_long, contents_stay, rows_stay, body_stays, latitude_body}
use Rattle.corrected.proofs.NewRows.{new_rows, range_kept, before_kept, after_kept}

module _ (s : List ℕ) (ok : (check_of s).number ≡ 0) (r : ℕ) (f : Figures) (there : r < rows_of s latitude) where
  abbrev b : List ℕ
  b = body_of s latitude

  abbrev n : ℕ
  n = rows_of s latitude

  abbrev t : List ℕ
  t = with_row s r f

  z : (contents_of s).number ≡ 0
  z = contents-none s ok

  long : row_bytes latitude * n ≤ length b
  long = omega (arith, body_long s z r f)

  same_rows : rows_of t latitude ≡ n
  same_rows = rows_stay s z r f latitude (lit≤ tt) (lit≤ tt)

  pub passes_with : figures_in_range f ≡ true → bound_before b r f ≡ true → bound_after b n r f ≡ true → check_of t ≡ verdict 0 0 0
  unfolding row_fault where_is
  passes_with range before after = sound_passes t (record { contents = contents_stay s z r f ∙ (passes_sound s ok).contents; rows = rows })
    where
      row : (i : ℕ) → i < n → latitude_fault (rewritten b n r f) n i ≡ 0
      row i h = latitude-passes (rewritten b n r f) n i (new_rows b n r f long there (latitude_rows s (passes_sound s ok)) range before after i h)

      rows : (kind i : ℕ) → 1 ≤ kind → kind ≤ last_kind → i < rows_of t kind → row_fault kind (body_of t kind) (rows_of t kind) i ≡ 0
      rows kind i l h lt = pick (ℕ_discrete kind latitude)
        where
          pick : Dec (kind ≡ latitude) → row_fault kind (body_of t kind) (rows_of t kind) i ≡ 0
          pick (yes e) = rw (e, latitude_body s z r f, same_rows) (row i (rw (e, same_rows) at lt))
          pick (no other) =
              let same : rows_of t kind ≡ rows_of s kind = rows_stay s z r f kind l h in
              rw (body_stays s z r f kind l h other, same) ((passes_sound s ok).rows kind i l h (rw same at lt))

  module _ (fit : FiguresFit f) (passes : (check_of t).number ≡ 0) where
    rows_there : (i : ℕ) → i < n → LatitudeRow (rewritten b n r f) n i
    rows_there i h = rw (latitude_body s z r f, same_rows) at (latitude_rows t (passes_sound t passes) i (rw same_rows h))

    pub must_range : figures_in_range f ≡ true
    must_range = range_kept b n r f long there fit rows_there

    pub must_before : bound_before b r f ≡ true
    must_before = before_kept b n r f long there fit rows_there

    pub must_after : bound_after b n r f ≡ true
    must_after = after_kept b n r f long there fit rows_there
