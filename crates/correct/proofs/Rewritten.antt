-- What is read of the body after row r of n was rewritten with f: every minute as before; f in row r, and every other row's figures as before; the differences of row r and of the
-- row before it as worked from the rows, and all others as before. Assumes nothing.
use mathlib.Core.Path.{◌≡◌, sym, ◌∙◌}
use mathlib.Core.Bool.{true}
use mathlib.Core.List.{List}
use mathlib.Core.Logic.{◌≢◌}
use Prim.Native.Nat.{ℕ, ◌+◌, ◌-◌, ◌*◌, ◌<◌, ◌≤◌}
use native.Mathlib.Decide.{dec_lt}
use native.Mathlib.Omega.{arith}
use lib.ListN.{length}
use Rattle.words.specs.Words.{word_at}
use Rattle.refusals.specs.Ladder.{where_below}
use Rattle.refusals.proofs.Ladders.{where_below_lem, where_beyond}
use Rattle.entries.specs.Layout.{latitude, width_of, row_bytes}
use Rattle.rules.specs.declared.Figures.{Figures}
use Rattle.rules.specs.declared.Differences.{Differences}
use Rattle.rules.specs.Latitude.{figures_in_range, within_bounds, differences_of}
use Rattle.latitude_rows.specs.Rows.{figures_at, differences_at}
use Rattle.writing.specs.Rows.{put_figures, put_differences, put_row}
use Rattle.writing.proofs.RowWords.{FiguresFit, figures_fit, DifferencesFit, length-put_figures, minute_by-figures, differences_by-figures, figures_elsewhere, figures_put, length-put_differences, minute_by_differences, figures-by_differences, differences_elsewhere, differences_put}
use Rattle.judge.specs.Judge.{bound_before, bound_after}
use Rattle.correct.specs.Correction.{worked_at, reworked, rewritten}
use Rattle.correct.proofs.Steps.{worked_with, rework_is}
use Rattle.judge.proofs.Bounds.{bound_before_lem, bound_after_lem}

-- ---- a row's differences worked again
module _ (b : List ℕ) (n i : ℕ) where
  length-reworked : length (reworked b n i) ≡ length b
  unfolding reworked
  length-reworked = length-put_differences b i (worked_at b n i)

  minute_reworked : (j : ℕ) → word_at (reworked b n i) (width_of latitude * j) ≡ word_at b (width_of latitude * j)
  unfolding reworked
  minute_reworked j = minute_by_differences b i (worked_at b n i) j

  figures-reworked : (j : ℕ) → figures_at (reworked b n i) j ≡ figures_at b j
  unfolding reworked
  figures-reworked j = figures-by_differences b i (worked_at b n i) j

  other_reworked : (j : ℕ) → j ≢ i → differences_at (reworked b n i) j ≡ differences_at b j
  unfolding reworked
  other_reworked j h = differences_elsewhere b i (worked_at b n i) j h

  own_reworked : row_bytes latitude * i + row_bytes latitude ≤ length b → DifferencesFit (worked_at b n i) → differences_at (reworked b n i) i ≡ worked_at b n i
  unfolding reworked
  own_reworked long fit = differences_put b i (worked_at b n i) long fit

-- bodies with the same figures have the same differences to work
same-worked : (b c : List ℕ) (n i : ℕ) → figures_at b i ≡ figures_at c i → figures_at b (i + 1) ≡ figures_at c (i + 1) → worked_at b n i ≡ worked_at c n i
unfolding worked_at
same-worked b c n i p q = rw (p, q)

-- ---- the whole
module _ (b : List ℕ) (n r : ℕ) (f : Figures) where
  -- with the new figures, and with row r's differences too
  abbrev placed : List ℕ
  placed = put_figures b r f

  abbrev own : List ℕ
  own = reworked placed n r

  -- what holds of the body before and after the row before was worked again
  by_place : (P : List ℕ → Type 0) → (r ≤ 0 → P own) → (0 < r → P (reworked own n (r - 1))) → P (rewritten b n r f)
  unfolding rewritten
  by_place P first later = pick (dec_lt 0 r)
    where
      pick : Dec (0 < r) → P (where_below 0 r (reworked own n (r - 1)) own)
      pick (yes h) = rw (where_below_lem 0 r (reworked own n (r - 1)) own h) (later h)
      pick (no h) = rw (where_beyond 0 r (reworked own n (r - 1)) own (omega arith)) (first (omega arith))

  length_own : length own ≡ length b
  length_own = length-reworked placed n r ∙ length-put_figures b r f

  figures_own : (j : ℕ) → figures_at own j ≡ figures_at placed j
  figures_own j = figures-reworked placed n r j

  pub length-rewritten : length (rewritten b n r f) ≡ length b
  length-rewritten = by_place (λ t. length t ≡ length b) (λ h. length_own) (λ h. length-reworked own n (r - 1) ∙ length_own)

  pub minutes_stay : (j : ℕ) → word_at (rewritten b n r f) (width_of latitude * j) ≡ word_at b (width_of latitude * j)
  minutes_stay j =
      let mine : word_at own (width_of latitude * j) ≡ word_at b (width_of latitude * j) = minute_reworked placed n r j ∙ minute_by-figures b r f j in
      by_place (λ t. word_at t (width_of latitude * j) ≡ word_at b (width_of latitude * j)) (λ h. mine) (λ h. minute_reworked own n (r - 1) j ∙ mine)

  figures-rewritten : (j : ℕ) → figures_at (rewritten b n r f) j ≡ figures_at placed j
  figures-rewritten j =
      by_place (λ t. figures_at t j ≡ figures_at placed j) (λ h. figures_own j) (λ h. figures-reworked own n (r - 1) j ∙ figures_own j)

  pub figures_stay : (j : ℕ) → j ≢ r → figures_at (rewritten b n r f) j ≡ figures_at b j
  figures_stay j h = figures-rewritten j ∙ figures_elsewhere b r f j h

  pub differences_stay : (j : ℕ) → j ≢ r → j + 1 ≢ r → differences_at (rewritten b n r f) j ≡ differences_at b j
  differences_stay j h k =
      let mine : differences_at own j ≡ differences_at b j = other_reworked placed n r j h ∙ differences_by-figures b r f j in
      by_place (λ t. differences_at t j ≡ differences_at b j) (λ z. mine) (λ z. other_reworked own n (r - 1) j (λ q. k (omega arith)) ∙ mine)

  module _ (long : row_bytes latitude * n ≤ length b) (there : r < n) (fit : FiguresFit f) where
    placed_here : figures_at placed r ≡ f
    placed_here = figures_put b r f (omega arith) fit

    pub figures_new : figures_at (rewritten b n r f) r ≡ f
    figures_new = figures-rewritten r ∙ placed_here

    -- ---- the differences that were worked again, where a word holds them
    same-figures : (j : ℕ) → worked_at placed n j ≡ worked_at (rewritten b n r f) n j
    same-figures j = same-worked placed (rewritten b n r f) n j (sym (figures-rewritten j)) (sym (figures-rewritten (j + 1)))

    pub differences_new : DifferencesFit (worked_at (rewritten b n r f) n r) → differences_at (rewritten b n r f) r ≡ worked_at (rewritten b n r f) n r
    differences_new d =
        let mine : differences_at own r ≡ worked_at (rewritten b n r f) n r =
        own_reworked placed n r (omega (arith, length-put_figures b r f)) (rw (same-figures r) d) ∙ same-figures r in
        by_place (λ t. differences_at t r ≡ worked_at (rewritten b n r f) n r) (λ z. mine) (λ z. other_reworked own n (r - 1) r (λ q. omega arith) ∙ mine)

    pub differences_before : (j : ℕ) → j + 1 ≡ r → DifferencesFit (worked_at (rewritten b n r f) n j) → differences_at (rewritten b n r f) j ≡ worked_at (rewritten b n r f) n j
    differences_before j e d =
        let at : r - 1 ≡ j = omega arith in
        let same : worked_at own n j ≡ worked_at (rewritten b n r f) n j = same-worked own placed n j (figures_own j) (figures_own (j + 1)) ∙ same-figures j in
        by_place (λ t. differences_at t j ≡ worked_at (rewritten b n r f) n j) (λ z. absurd (omega arith))
        (λ z. rw at (own_reworked own n j (omega (arith, length_own)) (rw same d) ∙ same))

-- ---- in the shape of the code: the differences are worked from the figures in hand. u has the new figures and row r's differences, and v those of the row before too.
module _ (b : List ℕ) (n r : ℕ) (f : Figures) (long : row_bytes latitude * n ≤ length b) (there : r < n) (range : figures_in_range f ≡ true) where
  here : figures_at (put_figures b r f) r ≡ f
  here = figures_put b r f (omega arith) (figures_fit f range)

  -- g is the next row's figures
  module _ (g : Figures) (e : g ≡ figures_at b (r + 1)) (l : r + 1 < n) where
    pub after_bounds : bound_after b n r f ≡ true → within_bounds f g ≡ true
    after_bounds h = rw e (bound_after_lem b r f n h l)

    pub after-worked : (d : Differences) → d ≡ differences_of f g → d ≡ worked_at (put_figures b r f) n r
    after-worked d w = worked_with (put_figures b r f) n r d f g l (sym here) (e ∙ sym (figures_elsewhere b r f (r + 1) (omega arith))) w

  module _ (u : List ℕ) (d : Differences) (w : d ≡ worked_at (put_figures b r f) n r) (q : u ≡ put_row b r f d) where
    own_is : u ≡ reworked (put_figures b r f) n r
    own_is = rework_is (put_figures b r f) n r d u w q

    pub first_row : r ≤ 0 → u ≡ rewritten b n r f
    unfolding rewritten
    first_row h = own_is ∙ sym (where_beyond 0 r (reworked (reworked (put_figures b r f) n r) n (r - 1)) (reworked (put_figures b r f) n r) h)

    -- g is the figures of the row before
    module _ (h : 0 < r) (g : Figures) (e : g ≡ figures_at u (r - 1)) where
      at : r - 1 + 1 ≡ r
      at = omega arith

      prior : g ≡ figures_at b (r - 1)
      prior = e ∙ rw own_is (figures-reworked (put_figures b r f) n r (r - 1) ∙ figures_elsewhere b r f (r - 1) (omega arith))

      this : f ≡ figures_at u (r - 1 + 1)
      this = rw (at, own_is) (sym (figures-reworked (put_figures b r f) n r r ∙ here))

      pub before_bounds : bound_before b r f ≡ true → within_bounds g f ≡ true
      before_bounds k = rw prior (bound_before_lem b r f n k h)

      pub later-row : (k : Differences) (v : List ℕ) → k ≡ differences_of g f → v ≡ put_differences u (r - 1) k → v ≡ rewritten b n r f
      unfolding rewritten
      later-row k v m z =
          rework_is u n (r - 1) k v (worked_with u n (r - 1) k g f (omega arith) e this m) z
          ∙ rw own_is (sym (where_below_lem 0 r (reworked (reworked (put_figures b r f) n r) n (r - 1)) (reworked (put_figures b r f) n r) h))
