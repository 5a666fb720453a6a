-- "Correction. It gives a minute and new y0, H, V, a. It answers one number". s is the sheet, b its latitude body, the part that holds its n rows; i and r are rows, counted
-- from 0, and f the new figures. What it looks at: "the contents, the first latitude row's minute, the named row [..] and its neighbours". So "On a sheet not checked before it
-- follows these same rules and promises no pass."
use Rattle.std.specs.Prelude.{List, ℕ, ◌+◌, ◌-◌, ◌*◌, ℤ}
use Rattle.words.specs.Parts.{put_part}
use Rattle.refusals.specs.Ladder.{where_below, where_is, or_else}
use Rattle.entries.specs.Layout.{latitude, width_of}
use Rattle.entries.specs.Entries.{start_of, rows_of, body_of}
use Rattle.contents.specs.Contents.{contents_of}
use Rattle.rules.specs.declared.Figures.{Figures}
use Rattle.rules.specs.declared.Differences.{Differences}
use Rattle.rules.specs.Latitude.{differences_of, no_differences}
use Rattle.latitude_rows.specs.Rows.{figures_at}
use Rattle.minute_row.specs.MinuteRow.{named_row}
use Rattle.writing.specs.Rows.{put_figures, put_differences}
use Rattle.judge.specs.Judge.{judged_by}

-- The new figures as one: y0 (0.01 ft), H (0.000001), V (0.000001), a (0.001).
abbrev pub figures : ℤ → ℤ → ℤ → ℤ → Figures
figures y0 h v a = record { y0 = y0; h = h; v = v; a = a }

-- "It answers one number: 1 to 5", as the check gives them, "then 16, 6 [..], 8". 0 is "accepted".
unfoldable pub correction_of : List ℕ → ℤ → Figures → ℕ
correction_of s minute f = or_else (λ n. n) (contents_of s).number (judged_by (body_of s latitude) (rows_of s latitude) minute f)

-- ---- "Accepted, it writes the four figures and the reworked differences of that row and the row before"
-- Row i's differences as its figures and the next row's give them; in the last row all three are 0.
unfoldable pub worked_at : List ℕ → ℕ → ℕ → Differences
worked_at b n i = where_below (i + 1) n (differences_of (figures_at b i) (figures_at b (i + 1))) no_differences

unfoldable pub reworked : List ℕ → ℕ → ℕ → List ℕ
reworked b n i = put_differences b i (worked_at b n i)

-- The body with f in row r, and the differences of row r and of the row before it, where there is one, worked again.
unfoldable pub rewritten : List ℕ → ℕ → ℕ → Figures → List ℕ
rewritten b n r f =
    let own = reworked (put_figures b r f) n r in
    where_below 0 r (reworked own n (r - 1)) own

-- The body after the correction, of a sheet whose contents have no fault. "Refused, it writes nothing."
unfoldable pub corrected_body : List ℕ → ℕ → ℤ → Figures → List ℕ
corrected_body b n minute f = where_is (judged_by b n minute f) 0 (rewritten b n (named_row b minute) f) b

-- The sheet with the body so rewritten; "all other bytes stay".
unfoldable pub with_row : List ℕ → ℕ → Figures → List ℕ
with_row s r f = put_part s (start_of s latitude) (rows_of s latitude * width_of latitude) (rewritten (body_of s latitude) (rows_of s latitude) r f)

-- The sheet after the correction.
unfoldable pub corrected_of : List ℕ → ℤ → Figures → List ℕ
corrected_of s minute f = where_is (correction_of s minute f) 0 (with_row s (named_row (body_of s latitude) minute) f) s
