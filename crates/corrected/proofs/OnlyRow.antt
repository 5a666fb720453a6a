-- The words that a correction of row r may change are row r's behind its minute, and the three differences of the row before it. Every other byte stays, whatever the new figures; and a
-- sheet that passes, and differs from s in these words alone, is s with row r rewritten with its figures. Assumes nothing.
use mathlib.Core.Path.{◌≡◌, refl, sym, ap, ◌∙◌}
use mathlib.Core.Bool.{true}
use mathlib.Core.List.{List}
use mathlib.Core.Logic.{◌≢◌, ◌⊎◌, inl, inr}
use Prim.Native.Nat.{ℕ, ◌+◌, ◌-◌, ◌*◌, ◌/◌, ◌<◌, ◌≤◌}
use native.Mathlib.Decide.{ℕ_discrete, dec_lt}
use native.Mathlib.Omega.{arith}
use lib.Dec.{lit<, lit≤}
use lib.IntN.{pos}
use lib.ListN.{length, drop, get_or, get_or-eq_default}
use lib.Seq.{get_or-take, get_or-drop, ext_get_or}
use Rattle.rounding.proofs.Tests.{both}
use Rattle.words.specs.Words.{unsigned_at, signed32, word_at}
use Rattle.refusals.specs.Ladder.{where_below}
use Rattle.words.specs.Parts.{part_of, put_part}
use Rattle.refusals.proofs.Ladders.{where_below_lem, where_beyond}
use Rattle.words.proofs.Writing.{put_word_keeps, length-put_word}
use Rattle.words.proofs.PartWords.{length-part_of}
use Rattle.words.proofs.PuttingParts.{same_word, length-put_part, before_part, after_part, part_put}
use Rattle.entries.specs.Layout.{latitude, first_body, width_of}
use Rattle.entries.specs.Entries.{form_of, start_of, rows_of, body_of}
use Rattle.contents.specs.Contents.{contents_of}
use Rattle.contents.proofs.Passing.{its_entry, there as in-form, body_after, body_within, body_length}
use Rattle.rules.specs.declared.Figures.{Figures}
use Rattle.rules.specs.declared.Differences.{Differences}
use Rattle.refusals.specs.Tests.{in_range}
use Rattle.rules.specs.Latitude.{figures_in_range, differences_of, no_differences}
use Rattle.latitude_rows.specs.Rows.{figures_at, differences_at, row_at, row_in_range}
use Rattle.latitude_rows.proofs.PassingRows.{LatitudeRow}
use Rattle.latitude_rows.proofs.PassingFigures.{differences_stated, last_differences}
use Rattle.sheet_check.specs.Check.{check_of}
use Rattle.sheet_check.proofs.Sound.{passes_sound, latitude_rows}
use Rattle.writing.specs.Rows.{put_figures, put_differences}
use Rattle.correct.specs.Correction.{worked_at, reworked, rewritten, with_row}
use Rattle.writing.proofs.RowWords.{figures_fit, length-put_figures, figures_elsewhere, figures_put, length-put_differences, figures-by_differences}
use Rattle.correct.proofs.Rewritten.{length-rewritten}
use Rattle.corrected.proofs.SameContents.{start_same, rows_same}
use Rattle.corrected.proofs.WithRow.{within, whole}
use Rattle.corrected.proofs.OwnBytes.{written}

-- words in a latitude row
abbrev width : ℕ
width = width_of latitude

-- Word w, where the latitude body starts at word a: one of row r's behind its minute; one of the row before's three differences.
abbrev pub Own : ℕ → ℕ → ℕ → Type 0
Own a r w = (a + width * r + 1 ≤ w) × (w ≤ a + width * r + 7)

abbrev pub Prior : ℕ → ℕ → ℕ → Type 0
Prior a r w = (0 < r) × ((w ≡ a + width * (r - 1) + 2) ⊎ ((w ≡ a + width * (r - 1) + 4) ⊎ (w ≡ a + width * (r - 1) + 6)))

-- the same words in the body's own numbers
own_part : (a r j : ℕ) → (Own a r (a + j) → ⊥) → Own 0 r j → ⊥
own_part a r j no_own e = no_own (omega arith, omega arith)

prior_part : (a r j : ℕ) → (Prior a r (a + j) → ⊥) → Prior 0 r j → ⊥
prior_part a r j no-prior (h, inl e) = no-prior (h, inl (omega arith))
prior_part a r j no-prior (h, inr (inl e)) = no-prior (h, inr (inl (omega arith)))
prior_part a r j no-prior (h, inr (inr e)) = no-prior (h, inr (inr (omega arith)))

part_own : (a r j : ℕ) → (Own 0 r j → ⊥) → Own a r (a + j) → ⊥
part_own a r j no_own e = no_own (omega arith, omega arith)

part_prior : (a r j : ℕ) → (Prior 0 r j → ⊥) → Prior a r (a + j) → ⊥
part_prior a r j no-prior (h, inl e) = no-prior (h, inl (omega arith))
part_prior a r j no-prior (h, inr (inl e)) = no-prior (h, inr (inl (omega arith)))
part_prior a r j no-prior (h, inr (inr e)) = no-prior (h, inr (inr (omega arith)))

-- the seven words of row r, one by one
low_three : (r w : ℕ) → Own 0 r w → w < width * r + 4 → w ≢ width * r + 1 → w ≢ width * r + 2 → w ≢ width * r + 3 → ⊥
low_three r w o h n₁ n₂ n₃ = omega arith

high_four : (r w : ℕ) → Own 0 r w → (w < width * r + 4 → ⊥) → w ≢ width * r + 4 → w ≢ width * r + 5 → w ≢ width * r + 6 → w ≢ width * r + 7 → ⊥
high_four r w o h n₄ n₅ n₆ n₇ = omega arith

-- ---- in the body: byte q lies in none of these words
module _ (b : List ℕ) (n r : ℕ) (f : Figures) (q : ℕ) (no_own : Own 0 r (q / 4) → ⊥) (no-prior : Prior 0 r (q / 4) → ⊥) where
  not_own : (k : ℕ) → 1 ≤ k → k < width → q / 4 ≡ width * r + k → ⊥
  not_own k l h e = no_own (omega arith, omega arith)

  figures-keep : get_or (put_figures b r f) q 0 ≡ get_or b q 0
  unfolding put_figures
  figures-keep =
      put_word_keeps _ (width * r + 7) f.a q (not_own 7 (omega arith) (omega arith))
      ∙ put_word_keeps _ (width * r + 5) f.v q (not_own 5 (omega arith) (omega arith))
      ∙ put_word_keeps _ (width * r + 3) f.h q (not_own 3 (omega arith) (omega arith))
      ∙ put_word_keeps b (width * r + 1) f.y0 q (not_own 1 (omega arith) (omega arith))

  own_keep : (x : List ℕ) → get_or (reworked x n r) q 0 ≡ get_or x q 0
  unfolding reworked put_differences
  own_keep x =
      put_word_keeps _ (width * r + 6) (worked_at x n r).v q (not_own 6 (omega arith) (omega arith))
      ∙ put_word_keeps _ (width * r + 4) (worked_at x n r).h q (not_own 4 (omega arith) (omega arith))
      ∙ put_word_keeps x (width * r + 2) (worked_at x n r).y q (not_own 2 (omega arith) (omega arith))

  prior_keep : 0 < r → (x : List ℕ) → get_or (reworked x n (r - 1)) q 0 ≡ get_or x q 0
  unfolding reworked put_differences
  prior_keep h x =
      put_word_keeps _ (width * (r - 1) + 6) (worked_at x n (r - 1)).v q (λ e. no-prior (h, inr (inr (omega arith))))
      ∙ put_word_keeps _ (width * (r - 1) + 4) (worked_at x n (r - 1)).h q (λ e. no-prior (h, inr (inl (omega arith))))
      ∙ put_word_keeps x (width * (r - 1) + 2) (worked_at x n (r - 1)).y q (λ e. no-prior (h, inl (omega arith)))

  abbrev own : List ℕ
  own = reworked (put_figures b r f) n r

  body_keeps : get_or (rewritten b n r f) q 0 ≡ get_or b q 0
  unfolding rewritten
  body_keeps = pick (dec_lt 0 r)
    where
      pick : Dec (0 < r) → get_or (where_below 0 r (reworked own n (r - 1)) own) q 0 ≡ get_or b q 0
      pick (yes h) = rw (where_below_lem 0 r (reworked own n (r - 1)) own h) (prior_keep h own ∙ own_keep (put_figures b r f) ∙ figures-keep)
      pick (no h) = rw (where_beyond 0 r (reworked own n (r - 1)) own (omega arith)) (own_keep (put_figures b r f) ∙ figures-keep)

-- ---- a body t of n rows that keep the rules, which differs from b in these words alone
module _ (b t : List ℕ) (n r : ℕ) (there : r < n) (long : length b ≡ 4 * (n * width)) (bytes : (q : ℕ) → get_or t q 0 < 256) (rows : (i : ℕ) → i < n → LatitudeRow t n i)
    (others : (q : ℕ) → q < 4 * (n * width) → (Own 0 r (q / 4) → ⊥) → (Prior 0 r (q / 4) → ⊥) → get_or t q 0 ≡ get_or b q 0) where
  abbrev f : Figures
  f = figures_at t r

  range : figures_in_range f ≡ true
  unfolding row_in_range
  range = (both (in_range (pos 0) (row_at t r).minute (pos 5_400)) (figures_in_range f) (rows r there).range).1

  -- a word that is none of these
  word_same : (w : ℕ) → w < n * width → (Own 0 r w → ⊥) → (Prior 0 r w → ⊥) → word_at b w ≡ word_at t w
  unfolding word_at
  word_same w h no_own no-prior = ap signed32 (same_word b t w (λ q l u. byte q (omega arith) (omega arith)))
    where
      byte : (q : ℕ) → q < 4 * (n * width) → q / 4 ≡ w → get_or b q 0 ≡ get_or t q 0
      byte q u e = sym (others q u (λ o. no_own (rw e at o)) (λ o. no-prior (rw e at o)))

  other_row : (j : ℕ) → j < n → j ≢ r → figures_at b j ≡ figures_at t j
  unfolding figures_at
  other_row j h other =
      rw (
        word_same (width * j + 1) (omega arith) (λ o. omega arith) (no_difference 0),
        word_same (width * j + 3) (omega arith) (λ o. omega arith) (no_difference 1),
        word_same (width * j + 5) (omega arith) (λ o. omega arith) (no_difference 2),
        word_same (width * j + 7) (omega arith) (λ o. omega arith) (no_difference 3),
      )
    where
      no_difference : (m : ℕ) → Prior 0 r (width * j + (2 * m + 1)) → ⊥
      no_difference m (l, inl e) = omega arith
      no_difference m (l, inr (inl e)) = omega arith
      no_difference m (l, inr (inr e)) = omega arith

  -- ---- bodies with t's figures: their differences to work are those that t has
  abbrev Like : List ℕ → Type 0
  Like x = (j : ℕ) → j < n → figures_at x j ≡ figures_at t j

  like_worked : (x : List ℕ) → Like x → (i : ℕ) → i < n → worked_at x n i ≡ differences_at t i
  unfolding worked_at
  like_worked x like i h = pick (dec_lt (i + 1) n)
    where
      pick : Dec (i + 1 < n) → where_below (i + 1) n (differences_of (figures_at x i) (figures_at x (i + 1))) no_differences ≡ differences_at t i
      pick (yes l) = where_below_lem (i + 1) n _ _ l ∙ rw (like i h, like (i + 1) l) (sym (differences_stated t n rows i l))
      pick (no l) = where_beyond (i + 1) n _ _ (omega arith) ∙ sym (last_differences t n rows i h (omega arith))

  placed_like : Like (put_figures b r f)
  placed_like j h = pick (ℕ_discrete j r)
    where
      pick : Dec (j ≡ r) → figures_at (put_figures b r f) j ≡ figures_at t j
      pick (yes e) = rw e (figures_put b r f (omega arith) (figures_fit f range))
      pick (no other) = figures_elsewhere b r f j other ∙ other_row j h other

  reworked_like : (x : List ℕ) (i : ℕ) → Like x → Like (reworked x n i)
  unfolding reworked
  reworked_like x i like j h = figures-by_differences x i (worked_at x n i) j ∙ like j h

  -- ---- byte q of each list on the way: t's, once its word was written
  module _ (q : ℕ) where
    abbrev Same : List ℕ → Type 0
    Same x = get_or x q 0 ≡ get_or t q 0

    by-figures : (q / 4 ≢ width * r + 1 → q / 4 ≢ width * r + 3 → q / 4 ≢ width * r + 5 → q / 4 ≢ width * r + 7 → Same b) → Same (put_figures b r f)
    unfolding put_figures figures_at
    by-figures base =
        written t bytes _ (width * r + 7) (simp length-put_word (omega arith)) f.a refl q
        (λ n₇. written t bytes _ (width * r + 5) (simp length-put_word (omega arith)) f.v refl q
        (λ n₅. written t bytes _ (width * r + 3) (simp length-put_word (omega arith)) f.h refl q
        (λ n₃. written t bytes b (width * r + 1) (omega arith) f.y0 refl q (λ n₁. base n₁ n₃ n₅ n₇))))

    by_differences : (x : List ℕ) (i : ℕ) → length x ≡ length b → i < n → Like x → (q / 4 ≢ width * i + 2 → q / 4 ≢ width * i + 4 → q / 4 ≢ width * i + 6 → Same x) → Same (reworked x n i)
    unfolding reworked put_differences differences_at
    by_differences x i same h like base =
        let worked = like_worked x like i h in
        written t bytes _ (width * i + 6) (simp length-put_word (omega arith)) (worked_at x n i).v (ap (λ (d : Differences). d.v) worked) q
        (λ n₆. written t bytes _ (width * i + 4) (simp length-put_word (omega arith)) (worked_at x n i).h (ap (λ (d : Differences). d.h) worked) q
        (λ n₄. written t bytes x (width * i + 2) (omega arith) (worked_at x n i).y (ap (λ (d : Differences). d.y) worked) q (λ n₂. base n₂ n₄ n₆)))

    abbrev mine : List ℕ
    mine = reworked (put_figures b r f) n r

    length_mine : length mine ≡ length b
    unfolding reworked
    length_mine = length-put_differences (put_figures b r f) r (worked_at (put_figures b r f) n r) ∙ length-put_figures b r f

    -- row r's seven words, and the row before's three
    by_own : ((Own 0 r (q / 4) → ⊥) → Same b) → Same mine
    by_own base =
        by_differences (put_figures b r f) r (length-put_figures b r f) there placed_like
        (λ n₂ n₄ n₆. by-figures (λ n₁ n₃ n₅ n₇. base (λ o. by-half o n₁ n₂ n₃ n₄ n₅ n₆ n₇ (dec_lt (q / 4) (width * r + 4)))))
      where
        by-half : Own 0 r (q / 4) → q / 4 ≢ width * r + 1 → q / 4 ≢ width * r + 2 → q / 4 ≢ width * r + 3 → q / 4 ≢ width * r + 4 → q / 4 ≢ width * r + 5 → q / 4 ≢ width * r + 6 → q / 4 ≢ width * r + 7
            → Dec (q / 4 < width * r + 4) → ⊥
        by-half o n₁ n₂ n₃ n₄ n₅ n₆ n₇ (yes h) = low_three r (q / 4) o h n₁ n₂ n₃
        by-half o n₁ n₂ n₃ n₄ n₅ n₆ n₇ (no h) = high_four r (q / 4) o h n₄ n₅ n₆ n₇

    by_prior : 0 < r → ((Own 0 r (q / 4) → ⊥) → (Prior 0 r (q / 4) → ⊥) → Same b) → Same (reworked mine n (r - 1))
    by_prior h base =
        by_differences mine (r - 1) length_mine (omega arith) (reworked_like (put_figures b r f) r placed_like)
        (λ n₂ n₄ n₆. by_own (λ no_own. base no_own (none n₂ n₄ n₆)))
      where
        none : q / 4 ≢ width * (r - 1) + 2 → q / 4 ≢ width * (r - 1) + 4 → q / 4 ≢ width * (r - 1) + 6 → Prior 0 r (q / 4) → ⊥
        none n₂ n₄ n₆ (l, inl e) = n₂ (omega arith)
        none n₂ n₄ n₆ (l, inr (inl e)) = n₄ (omega arith)
        none n₂ n₄ n₆ (l, inr (inr e)) = n₆ (omega arith)

    same_byte : q < 4 * (n * width) → Same (rewritten b n r f)
    unfolding rewritten
    same_byte u = pick (dec_lt 0 r)
      where
        pick : Dec (0 < r) → Same (where_below 0 r (reworked mine n (r - 1)) mine)
        pick (yes h) = rw (where_below_lem 0 r (reworked mine n (r - 1)) mine h) (by_prior h (λ no_own no-prior. sym (others q u no_own no-prior)))
        pick (no h) = rw (where_beyond 0 r (reworked mine n (r - 1)) mine (omega arith)) (by_own (λ no_own. sym (others q u no_own (λ o. omega arith))))

  body_is : length t ≡ length b → rewritten b n r f ≡ t
  body_is same =
      ext_get_or 0 (rewritten b n r f) t (length-rewritten b n r f ∙ sym same) (λ q h. same_byte q (omega (arith, length-rewritten b n r f)))

-- ---- the sheet
module _ (s : List ℕ) (z : (contents_of s).number ≡ 0) where
  abbrev a : ℕ
  a = start_of s latitude

  abbrev n : ℕ
  n = rows_of s latitude

  -- a byte of the body, and its word
  word_of : (q : ℕ) → (4 * a + q) / 4 ≡ a + q / 4
  word_of q = omega arith

  byte_of : (u : List ℕ) (q : ℕ) → q < 4 * (n * width) → get_or (part_of u a (n * width)) q 0 ≡ get_or u (4 * a + q) 0
  byte_of u q h = get_or-take (4 * (n * width)) (drop (4 * a) u) q 0 h ∙ get_or-drop (4 * a) u q 0

  -- a list as long as s whose bytes are s's before the body and behind it, and b's in it, is s with b put there
  put_is : (t b : List ℕ) → length t ≡ length s → part_of t a (n * width) ≡ b → ((q : ℕ) → (q < 4 * a) ⊎ (4 * (a + n * width) ≤ q) → get_or t q 0 ≡ get_or s q 0) → put_part s a (n * width) b ≡ t
  put_is t b same part outer = ext_get_or 0 (put_part s a (n * width) b) t (length-put_part s b a (n * width) inside long ∙ sym same) (λ q h. pick q (dec_lt q (4 * a)) (dec_lt q (4 * (a + n * width))))
    where
      inside : 4 * (a + n * width) ≤ length s
      inside = body_within s z latitude (lit≤ tt) (lit≤ tt)

      long : length b ≡ 4 * (n * width)
      long = rw (← part) (length-part_of t a (n * width) (omega (arith, inside)))

      pick : (q : ℕ) → Dec (q < 4 * a) → Dec (q < 4 * (a + n * width)) → get_or (put_part s a (n * width) b) q 0 ≡ get_or t q 0
      pick q (yes h) k = before_part s b a (n * width) inside long q h ∙ sym (outer q (inl h))
      pick q (no h) (no k) = after_part s b a (n * width) inside long q (omega arith) ∙ sym (outer q (inr (omega arith)))
      pick q (no h) (yes k) =
          let at : 4 * a + (q - 4 * a) ≡ q = omega arith in
          ap (λ (j : ℕ). get_or (put_part s a (n * width) b) j 0) (sym at)
          ∙ sym (byte_of (put_part s a (n * width) b) (q - 4 * a) (omega arith))
          ∙ ap (λ (u : List ℕ). get_or u (q - 4 * a) 0) (part_put s b a (n * width) inside long ∙ sym part)
          ∙ byte_of t (q - 4 * a) (omega arith)
          ∙ ap (λ (j : ℕ). get_or t j 0) at

  -- ---- after row r was rewritten with any figures
  pub row_keeps : (r : ℕ) (f : Figures) → r < n → (q : ℕ) → (Own a r (q / 4) → ⊥) → (Prior a r (q / 4) → ⊥) → get_or (with_row s r f) q 0 ≡ get_or s q 0
  unfolding with_row body_of
  row_keeps r f there q no_own no-prior = pick (dec_lt q (4 * a)) (dec_lt q (4 * (a + n * width)))
    where
      new : List ℕ
      new = rewritten (body_of s latitude) n r f

      inside : (j : ℕ) → 4 * a + j ≡ q → j < 4 * (n * width) → get_or (put_part s a (n * width) new) q 0 ≡ get_or s q 0
      inside j e h =
          let at : q / 4 ≡ a + j / 4 = omega arith in
          ap (λ (k : ℕ). get_or (put_part s a (n * width) new) k 0) (sym e)
          ∙ sym (byte_of (put_part s a (n * width) new) j h)
          ∙ ap (λ (u : List ℕ). get_or u j 0) (part_put s new a (n * width) (within s z r f) (whole s z r f))
          ∙ body_keeps (body_of s latitude) n r f j (own_part a r (j / 4) (rw at at no_own)) (prior_part a r (j / 4) (rw at at no-prior))
          ∙ byte_of s j h
          ∙ ap (λ (k : ℕ). get_or s k 0) e

      pick : Dec (q < 4 * a) → Dec (q < 4 * (a + n * width)) → get_or (put_part s a (n * width) new) q 0 ≡ get_or s q 0
      pick (yes h) k = before_part s new a (n * width) (within s z r f) (whole s z r f) q h
      pick (no h) (no k) = after_part s new a (n * width) (within s z r f) (whole s z r f) q (omega arith)
      pick (no h) (yes k) = inside (q - 4 * a) (omega arith) (omega arith)

  -- ---- t differs from s in these words alone
  module _ (t : List ℕ) (r : ℕ) (there : r < n) (same : length t ≡ length s) (others : (q : ℕ) → (Own a r (q / 4) → ⊥) → (Prior a r (q / 4) → ⊥) → get_or t q 0 ≡ get_or s q 0) where
    pub word_kept : (w : ℕ) → (Own a r w → ⊥) → (Prior a r w → ⊥) → unsigned_at t w ≡ unsigned_at s w
    word_kept w no_own no-prior = same_word t s w (λ q l u. byte q (omega arith))
      where
        byte : (q : ℕ) → q / 4 ≡ w → get_or t q 0 ≡ get_or s q 0
        byte q e = others q (λ o. no_own (rw e at o)) (λ o. no-prior (rw e at o))

    -- before the body and behind it
    no_prior_before : (w : ℕ) → w < a → Prior a r w → ⊥
    no_prior_before w h (l, inl e) = omega arith
    no_prior_before w h (l, inr (inl e)) = omega arith
    no_prior_before w h (l, inr (inr e)) = omega arith

    no_prior_behind : (w : ℕ) → a + n * width ≤ w → Prior a r w → ⊥
    no_prior_behind w h (l, inl e) = omega arith
    no_prior_behind w h (l, inr (inl e)) = omega arith
    no_prior_behind w h (l, inr (inr e)) = omega arith

    contents-word : (i : ℕ) → i < first_body (form_of s) → unsigned_at t i ≡ unsigned_at s i
    contents-word i h =
        let l : i < a = omega (arith, body_after s z latitude (lit≤ tt) (lit≤ tt)) in
        word_kept i (λ o. omega arith) (no_prior_before i l)

    pub start_kept : start_of t latitude ≡ a
    start_kept = start_same s t contents-word latitude (its_entry s z latitude (lit≤ tt) (in-form s z latitude (lit≤ tt) (lit≤ tt))).0

    pub rows_kept : rows_of t latitude ≡ n
    rows_kept = rows_same s t contents-word latitude (its_entry s z latitude (lit≤ tt) (in-form s z latitude (lit≤ tt) (lit≤ tt))).0

    pub body_kept : body_of t latitude ≡ part_of t a (n * width)
    unfolding body_of
    body_kept = rw (start_kept, rows_kept)

    -- row r's minute is none of them
    pub minute_kept : word_at t (a + width * r) ≡ word_at s (a + width * r)
    unfolding word_at
    minute_kept = ap signed32 (word_kept (a + width * r) (λ o. omega arith) none)
      where
        none : Prior a r (a + width * r) → ⊥
        none (l, inl e) = omega arith
        none (l, inr (inl e)) = omega arith
        none (l, inr (inr e)) = omega arith

    -- a sheet of bytes that passes: it is s with row r rewritten with its own figures
    module _ (bytes : (q : ℕ) → get_or t q 0 < 256) (passes : (check_of t).number ≡ 0) where
      abbrev body : List ℕ
      body = part_of t a (n * width)

      body_rows : (i : ℕ) → i < n → LatitudeRow body n i
      body_rows i h = rw (body_kept, rows_kept) at (latitude_rows t (passes_sound t passes) i (rw rows_kept h))

      body_size : length body ≡ 4 * (n * width)
      body_size = length-part_of t a (n * width) (omega (arith, body_within s z latitude (lit≤ tt) (lit≤ tt)))

      body_bytes : (q : ℕ) → get_or body q 0 < 256
      body_bytes q = pick (dec_lt q (4 * (n * width)))
        where
          pick : Dec (q < 4 * (n * width)) → get_or body q 0 < 256
          pick (yes h) = rw (byte_of t q h) (bytes (4 * a + q))
          pick (no h) = rw (get_or-eq_default body 0 {n = q} (omega (arith, body_size))) (lit< tt)

      body_others : (q : ℕ) → q < 4 * (n * width) → (Own 0 r (q / 4) → ⊥) → (Prior 0 r (q / 4) → ⊥) → get_or body q 0 ≡ get_or (body_of s latitude) q 0
      unfolding body_of
      body_others q h no_own no-prior =
          byte_of t q h
          ∙ others (4 * a + q) (rw (word_of q) (part_own a r (q / 4) no_own)) (rw (word_of q) (part_prior a r (q / 4) no-prior))
          ∙ sym (byte_of s q h)

      long : length (body_of s latitude) ≡ 4 * (n * width)
      long = body_length s z latitude (lit≤ tt) (lit≤ tt)

      pub figures_range : figures_in_range (figures_at body r) ≡ true
      figures_range = range (body_of s latitude) body n r there long body_bytes body_rows body_others

      outer : (q : ℕ) → (q < 4 * a) ⊎ (4 * (a + n * width) ≤ q) → get_or t q 0 ≡ get_or s q 0
      outer q (inl h) = others q (λ o. omega arith) (no_prior_before (q / 4) (omega arith))
      outer q (inr h) = others q (λ o. omega arith) (no_prior_behind (q / 4) (omega arith))

      pub only_row : with_row s r (figures_at body r) ≡ t
      unfolding with_row
      only_row =
          put_is t (rewritten (body_of s latitude) n r (figures_at body r)) same
          (sym (body_is (body_of s latitude) body n r there long body_bytes body_rows body_others (body_size ∙ sym long)))
          outer
