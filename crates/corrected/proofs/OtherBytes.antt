-- Every byte of the sheet but those of row r and of the row before it stays, whatever the new figures. Assumes nothing.
use mathlib.Core.Path.{◌≡◌, sym, ap, ◌∙◌}
use mathlib.Core.List.{List}
use mathlib.Core.Logic.{◌⊎◌, inl, inr}
use Prim.Native.Nat.{ℕ, ◌+◌, ◌-◌, ◌*◌, ◌/◌, ◌<◌, ◌≤◌}
use native.Mathlib.Decide.{dec_lt}
use native.Mathlib.Omega.{arith}
use lib.ListN.{drop, get_or}
use lib.Seq.{get_or-take, get_or-drop}
use Rattle.refusals.specs.Ladder.{where_below}
use Rattle.words.specs.Parts.{put_part}
use Rattle.refusals.proofs.Ladders.{where_below_lem, where_beyond}
use Rattle.words.proofs.Writing.{put_word_keeps}
use Rattle.words.proofs.PuttingParts.{before_part, after_part, part_put}
use Rattle.entries.specs.Layout.{latitude, width_of, row_bytes}
use Rattle.entries.specs.Entries.{start_of, rows_of, body_of}
use Rattle.contents.specs.Contents.{contents_of}
use Rattle.rules.specs.declared.Figures.{Figures}
use Rattle.rules.specs.declared.Differences.{Differences}
use Rattle.writing.specs.Rows.{put_figures, put_differences}
use Rattle.correct.specs.Correction.{worked_at, reworked, rewritten, with_row}
use Rattle.corrected.proofs.WithRow.{within, whole}

-- words in a latitude row
abbrev width : ℕ
width = width_of latitude

-- ---- in the body: byte q lies in a word outside row i
module _ (b : List ℕ) (i q : ℕ) (far : (q / 4 < width * i) ⊎ (width * i + width ≤ q / 4)) where
  not_in : (k : ℕ) → k < width → q / 4 ≡ width * i + k → ⊥
  not_in k h e = by_side far
    where
      by_side : (q / 4 < width * i) ⊎ (width * i + width ≤ q / 4) → ⊥
      by_side (inl low) = omega arith
      by_side (inr high) = omega arith

  figures_far : (f : Figures) → get_or (put_figures b i f) q 0 ≡ get_or b q 0
  unfolding put_figures
  figures_far f =
      put_word_keeps _ (width * i + 7) f.a q (not_in 7 (omega arith))
      ∙ put_word_keeps _ (width * i + 5) f.v q (not_in 5 (omega arith))
      ∙ put_word_keeps _ (width * i + 3) f.h q (not_in 3 (omega arith))
      ∙ put_word_keeps b (width * i + 1) f.y0 q (not_in 1 (omega arith))

  differences_far : (d : Differences) → get_or (put_differences b i d) q 0 ≡ get_or b q 0
  unfolding put_differences
  differences_far d =
      put_word_keeps _ (width * i + 6) d.v q (not_in 6 (omega arith))
      ∙ put_word_keeps _ (width * i + 4) d.h q (not_in 4 (omega arith))
      ∙ put_word_keeps b (width * i + 2) d.y q (not_in 2 (omega arith))

  reworked_far : (n : ℕ) → get_or (reworked b n i) q 0 ≡ get_or b q 0
  unfolding reworked
  reworked_far n = differences_far (worked_at b n i)

-- a byte outside rows r − 1 and r
body_byte : (b : List ℕ) (n r : ℕ) (f : Figures) (q : ℕ) → (q < row_bytes latitude * (r - 1)) ⊎ (row_bytes latitude * r + row_bytes latitude ≤ q) → get_or (rewritten b n r f) q 0 ≡ get_or b q 0
unfolding rewritten
body_byte b n r f q far = pick (dec_lt 0 r)
  where
    here : (q < row_bytes latitude * (r - 1)) ⊎ (row_bytes latitude * r + row_bytes latitude ≤ q) → (q / 4 < width * r) ⊎ (width * r + width ≤ q / 4)
    here (inl low) = inl (omega arith)
    here (inr high) = inr (omega arith)

    before : 0 < r → (q < row_bytes latitude * (r - 1)) ⊎ (row_bytes latitude * r + row_bytes latitude ≤ q) → (q / 4 < width * (r - 1)) ⊎ (width * (r - 1) + width ≤ q / 4)
    before h (inl low) = inl (omega arith)
    before h (inr high) = inr (omega arith)

    own_byte : get_or (reworked (put_figures b r f) n r) q 0 ≡ get_or b q 0
    own_byte = reworked_far (put_figures b r f) r q (here far) n ∙ figures_far b r q (here far) f

    pick : Dec (0 < r) → get_or (where_below 0 r (reworked (reworked (put_figures b r f) n r) n (r - 1)) (reworked (put_figures b r f) n r)) q 0 ≡ get_or b q 0
    pick (yes h) =
        ap (λ (t : List ℕ). get_or t q 0) (where_below_lem 0 r (reworked (reworked (put_figures b r f) n r) n (r - 1)) (reworked (put_figures b r f) n r) h)
        ∙ reworked_far (reworked (put_figures b r f) n r) (r - 1) q (before h far) n
        ∙ own_byte
    pick (no h) =
        ap (λ (t : List ℕ). get_or t q 0) (where_beyond 0 r (reworked (reworked (put_figures b r f) n r) n (r - 1)) (reworked (put_figures b r f) n r) (omega arith)) ∙ own_byte

-- ---- in the sheet
module _ (s : List ℕ) (z : (contents_of s).number ≡ 0) (r : ℕ) (f : Figures) where
  abbrev a : ℕ
  a = start_of s latitude

  abbrev n : ℕ
  n = rows_of s latitude

  abbrev new : List ℕ
  new = rewritten (body_of s latitude) n r f

  abbrev put : List ℕ
  put = put_part s a (n * width) new

  pub other_bytes : (q : ℕ) → (q < 4 * (a + width * (r - 1))) ⊎ (4 * (a + width * r + width) ≤ q) → get_or (with_row s r f) q 0 ≡ get_or s q 0
  unfolding with_row body_of
  other_bytes q far = pick (dec_lt q (4 * a)) (dec_lt q (4 * (a + n * width)))
    where
      inside : (j : ℕ) → 4 * a + j ≡ q → j < 4 * (n * width) → get_or put q 0 ≡ get_or s q 0
      inside j e h =
          let side : (j < row_bytes latitude * (r - 1)) ⊎ (row_bytes latitude * r + row_bytes latitude ≤ j) = by_side far in
          ap (λ (k : ℕ). get_or put k 0) (sym e)
          ∙ sym (get_or-take (4 * (n * width)) (drop (4 * a) (put)) j 0 h ∙ get_or-drop (4 * a) (put) j 0)
          ∙ ap (λ (t : List ℕ). get_or t j 0) (part_put s new a (n * width) (within s z r f) (whole s z r f))
          ∙ body_byte (body_of s latitude) n r f j side
          ∙ get_or-take (4 * (n * width)) (drop (4 * a) s) j 0 h
          ∙ get_or-drop (4 * a) s j 0
          ∙ ap (λ (k : ℕ). get_or s k 0) e
        where
          by_side : (q < 4 * (a + width * (r - 1))) ⊎ (4 * (a + width * r + width) ≤ q) → (j < row_bytes latitude * (r - 1)) ⊎ (row_bytes latitude * r + row_bytes latitude ≤ j)
          by_side (inl low) = inl (omega arith)
          by_side (inr high) = inr (omega arith)

      pick : Dec (q < 4 * a) → Dec (q < 4 * (a + n * width)) → get_or put q 0 ≡ get_or s q 0
      pick (yes h) k = before_part s new a (n * width) (within s z r f) (whole s z r f) q h
      pick (no h) (no k) = after_part s new a (n * width) (within s z r f) (whole s z r f) q (omega arith)
      pick (no h) (yes k) = inside (q - 4 * a) (omega arith) (omega arith)
