-- What is read of a body after figures or differences were put in row i: of row i what was put, of every other word what was there. Assumes nothing.
use mathlib.Core.Path.{◌≡◌}
use mathlib.Core.Bool.{true}
use mathlib.Core.List.{List}
use mathlib.Core.Logic.{◌≢◌}
use Prim.Native.Nat.{ℕ, ◌+◌, ◌*◌, ◌≤◌}
use native.Mathlib.Nat.{lt_of_le_of_lt}
use native.Mathlib.Omega.{arith}
use lib.Dec.{lit<, lit≤}
use lib.IntN.{◌-ℤ◌}
use lib.ListN.{length}
use mir.Syntax.{w32}
use mir.Val.{SFits}
use Rattle.rounding.proofs.Holds.{fits}
use Rattle.steps.proofs.StepBounds.{per_second_most}
use Rattle.words.specs.Words.{word_at, put_word}
use Rattle.words.proofs.Writing.{word_at_put, word_at_put_other, length-put_word}
use Rattle.entries.specs.Layout.{latitude, width_of, row_bytes}
use Rattle.rules.specs.declared.Figures.{Figures}
use Rattle.rules.specs.declared.Differences.{Differences}
use Rattle.rules.specs.Latitude.{figures_in_range, within_bounds, differences_of, no_differences}
use Rattle.rules.proofs.WhatPasses.{figures_in_lem, changes}
use Rattle.latitude_rows.specs.Rows.{figures_at, differences_at}
use Rattle.writing.specs.Rows.{put_figures, put_differences}

-- words in a latitude row
abbrev width : ℕ
width = width_of latitude

-- figures and differences that a word holds
pub record FiguresFit (f : Figures) : Type 0 where
  pub y0 : SFits w32 f.y0
  pub h : SFits w32 f.h
  pub v : SFits w32 f.v
  pub a : SFits w32 f.a

pub record DifferencesFit (d : Differences) : Type 0 where
  pub y : SFits w32 d.y
  pub h : SFits w32 d.h
  pub v : SFits w32 d.v

-- figures in their ranges do, and so do the differences of rows within their bounds
pub figures_fit : (f : Figures) → figures_in_range f ≡ true → FiguresFit f
figures_fit f e =
    let r = figures_in_lem f e in
    record {
      y0 = fits (lt_of_le_of_lt r.y0.high (lit< tt));
      h = fits (lt_of_le_of_lt r.h.high (lit< tt));
      v = fits (lt_of_le_of_lt r.v.high (lit< tt));
      a = fits (lt_of_le_of_lt r.a (lit< tt));
    }

pub differences_fit : (f next : Figures) → within_bounds f next ≡ true → DifferencesFit (differences_of f next)
unfolding differences_of
differences_fit f next e =
    let r = changes f next e in
    record {
      y = fits (lt_of_le_of_lt (per_second_most 1_000 (next.y0 -ℤ f.y0) (lit≤ tt) r.y0) (lit< tt));
      h = fits (lt_of_le_of_lt (per_second_most 100 (f.h -ℤ next.h) (lit≤ tt) r.h) (lit< tt));
      v = fits (lt_of_le_of_lt (per_second_most 100 (next.v -ℤ f.v) (lit≤ tt) r.v) (lit< tt));
    }

pub none_fit : DifferencesFit no_differences
unfolding no_differences
none_fit = record { y = fits (lit< tt); h = fits (lit< tt); v = fits (lit< tt) }

-- ---- figures in row i
module _ (b : List ℕ) (i : ℕ) (f : Figures) where
  pub length-put_figures : length (put_figures b i f) ≡ length b
  unfolding put_figures
  length-put_figures = simp length-put_word

  pub figures-keep : (j : ℕ) → j ≢ width * i + 1 → j ≢ width * i + 3 → j ≢ width * i + 5 → j ≢ width * i + 7 → word_at (put_figures b i f) j ≡ word_at b j
  unfolding put_figures
  figures-keep j n₁ n₃ n₅ n₇ = rw (word_at_put_other, word_at_put_other, word_at_put_other, word_at_put_other)

  module _ (j : ℕ) where
    pub minute_by-figures : word_at (put_figures b i f) (width * j) ≡ word_at b (width * j)
    minute_by-figures = figures-keep (width * j) (omega arith) (omega arith) (omega arith) (omega arith)

    pub differences_by-figures : differences_at (put_figures b i f) j ≡ differences_at b j
    unfolding differences_at
    differences_by-figures =
        rw (
          figures-keep (width * j + 2) (omega arith) (omega arith) (omega arith) (omega arith),
          figures-keep (width * j + 4) (omega arith) (omega arith) (omega arith) (omega arith),
          figures-keep (width * j + 6) (omega arith) (omega arith) (omega arith) (omega arith),
        )

    pub figures_elsewhere : j ≢ i → figures_at (put_figures b i f) j ≡ figures_at b j
    unfolding figures_at
    figures_elsewhere n =
        rw (
          figures-keep (width * j + 1) (omega arith) (omega arith) (omega arith) (omega arith),
          figures-keep (width * j + 3) (omega arith) (omega arith) (omega arith) (omega arith),
          figures-keep (width * j + 5) (omega arith) (omega arith) (omega arith) (omega arith),
          figures-keep (width * j + 7) (omega arith) (omega arith) (omega arith) (omega arith),
        )

  module _ (long : row_bytes latitude * i + row_bytes latitude ≤ length b) (fit : FiguresFit f) where
    y0_put : word_at (put_figures b i f) (width * i + 1) ≡ f.y0
    unfolding put_figures
    y0_put =
        let n₃ : width * i + 1 ≢ width * i + 3 = omega arith in
        let n₅ : width * i + 1 ≢ width * i + 5 = omega arith in
        let n₇ : width * i + 1 ≢ width * i + 7 = omega arith in
        let l : 4 * (width * i + 1) + 4 ≤ length b = omega arith in
        rw (word_at_put_other, word_at_put_other, word_at_put_other, word_at_put _ _ _ l fit.y0)

    h_put : word_at (put_figures b i f) (width * i + 3) ≡ f.h
    unfolding put_figures
    h_put =
        let n₅ : width * i + 3 ≢ width * i + 5 = omega arith in
        let n₇ : width * i + 3 ≢ width * i + 7 = omega arith in
        let l : 4 * (width * i + 3) + 4 ≤ length (put_word b (width * i + 1) f.y0) = rw length-put_word (omega arith) in
        rw (word_at_put_other, word_at_put_other, word_at_put _ _ _ l fit.h)

    v_put : word_at (put_figures b i f) (width * i + 5) ≡ f.v
    unfolding put_figures
    v_put =
        let n₇ : width * i + 5 ≢ width * i + 7 = omega arith in
        let l : 4 * (width * i + 5) + 4 ≤ length (put_word (put_word b (width * i + 1) f.y0) (width * i + 3) f.h) = simp length-put_word (omega arith) in
        rw (word_at_put_other, word_at_put _ _ _ l fit.v)

    a_put : word_at (put_figures b i f) (width * i + 7) ≡ f.a
    unfolding put_figures
    a_put =
        let l : 4 * (width * i + 7) + 4 ≤ length (put_word (put_word (put_word b (width * i + 1) f.y0) (width * i + 3) f.h) (width * i + 5) f.v) = simp length-put_word (omega arith) in
        rw (word_at_put _ _ _ l fit.a)

    pub figures_put : figures_at (put_figures b i f) i ≡ f
    unfolding figures_at
    figures_put =
        let same : figures_at (put_figures b i f) i ≡ record { y0 = f.y0; h = f.h; v = f.v; a = f.a } = rw (y0_put, h_put, v_put, a_put) in
        same

-- ---- differences in row i
module _ (b : List ℕ) (i : ℕ) (d : Differences) where
  pub length-put_differences : length (put_differences b i d) ≡ length b
  unfolding put_differences
  length-put_differences = simp length-put_word

  pub differences_keep : (j : ℕ) → j ≢ width * i + 2 → j ≢ width * i + 4 → j ≢ width * i + 6 → word_at (put_differences b i d) j ≡ word_at b j
  unfolding put_differences
  differences_keep j n₂ n₄ n₆ = rw (word_at_put_other, word_at_put_other, word_at_put_other)

  module _ (j : ℕ) where
    pub minute_by_differences : word_at (put_differences b i d) (width * j) ≡ word_at b (width * j)
    minute_by_differences = differences_keep (width * j) (omega arith) (omega arith) (omega arith)

    pub figures-by_differences : figures_at (put_differences b i d) j ≡ figures_at b j
    unfolding figures_at
    figures-by_differences =
        rw (
          differences_keep (width * j + 1) (omega arith) (omega arith) (omega arith),
          differences_keep (width * j + 3) (omega arith) (omega arith) (omega arith),
          differences_keep (width * j + 5) (omega arith) (omega arith) (omega arith),
          differences_keep (width * j + 7) (omega arith) (omega arith) (omega arith),
        )

    pub differences_elsewhere : j ≢ i → differences_at (put_differences b i d) j ≡ differences_at b j
    unfolding differences_at
    differences_elsewhere n =
        rw (
          differences_keep (width * j + 2) (omega arith) (omega arith) (omega arith),
          differences_keep (width * j + 4) (omega arith) (omega arith) (omega arith),
          differences_keep (width * j + 6) (omega arith) (omega arith) (omega arith),
        )

  module _ (long : row_bytes latitude * i + row_bytes latitude ≤ length b) (fit : DifferencesFit d) where
    y_put : word_at (put_differences b i d) (width * i + 2) ≡ d.y
    unfolding put_differences
    y_put =
        let n₄ : width * i + 2 ≢ width * i + 4 = omega arith in
        let n₆ : width * i + 2 ≢ width * i + 6 = omega arith in
        let l : 4 * (width * i + 2) + 4 ≤ length b = omega arith in
        rw (word_at_put_other, word_at_put_other, word_at_put _ _ _ l fit.y)

    dh_put : word_at (put_differences b i d) (width * i + 4) ≡ d.h
    unfolding put_differences
    dh_put =
        let n₆ : width * i + 4 ≢ width * i + 6 = omega arith in
        let l : 4 * (width * i + 4) + 4 ≤ length (put_word b (width * i + 2) d.y) = rw length-put_word (omega arith) in
        rw (word_at_put_other, word_at_put _ _ _ l fit.h)

    dv_put : word_at (put_differences b i d) (width * i + 6) ≡ d.v
    unfolding put_differences
    dv_put =
        let l : 4 * (width * i + 6) + 4 ≤ length (put_word (put_word b (width * i + 2) d.y) (width * i + 4) d.h) = simp length-put_word (omega arith) in
        rw (word_at_put _ _ _ l fit.v)

    pub differences_put : differences_at (put_differences b i d) i ≡ d
    unfolding differences_at
    differences_put =
        let same : differences_at (put_differences b i d) i ≡ record { y = d.y; h = d.h; v = d.v } = rw (y_put, dh_put, dv_put) in
        same
