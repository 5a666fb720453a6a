-- `ReachesRows` and `RefusedStays` hold. Assumes nothing.
use mathlib.Core.Path.{◌≡◌, refl, sym, ap, ◌∙◌}
use mathlib.Core.Bool.{true}
use mathlib.Core.List.{List}
use Prim.Native.Nat.{ℕ, ◌+◌, ◌*◌, ◌<◌}
use native.Mathlib.Decide.{ℕ_discrete}
use native.Mathlib.Omega.{arith}
use lib.IntN.{ℤ}
use Rattle.words.specs.Words.{word_at}
use Rattle.words.specs.Parts.{part_of}
use Rattle.refusals.proofs.Ladders.{is_not}
use Rattle.words.proofs.PartWords.{word_at-part_of}
use Rattle.entries.specs.Layout.{latitude, width_of}
use Rattle.entries.specs.Entries.{start_of, rows_of, body_of}
use Rattle.contents.specs.Contents.{number_of, contents_of}
use Rattle.rules.specs.declared.Figures.{Figures}
use Rattle.latitude_rows.specs.Rows.{figures_at, row_at}
use Rattle.sheet_check.specs.Check.{check_of}
use Rattle.sheet_check.proofs.Known.{contents-none}
use Rattle.correct.specs.Correction.{rewritten, correction_of, corrected_of, with_row}
use Rattle.writing.proofs.RowWords.{FiguresFit, figures_fit}
use Rattle.correct.proofs.Rewritten.{figures_new}
use Rattle.correct.proofs.Judged.{number_is}
use Rattle.judge.proofs.Kept.{Kept, zero_keeps, kept-zero}
use Rattle.touched.specs.Touched.{has_minute, row_named}
use Rattle.corrected.proofs.WithRow.{length-stays, body_long, latitude_body}
use Rattle.corrected.proofs.WholeCheck.{must_range, must_before, must_after}
use Rattle.minute_row.proofs.Minutes.{each_named}
use Rattle.corrected.proofs.OnlyRow.{row_keeps, start_kept, body_kept, minute_kept, figures_range, only_row}
use Rattle.corrected.proofs.StillBytes.{still_bytes}
use Rattle.promises.specs.Corrections.{Passes, put_in}
use Rattle.promises.specs.OneRow.{minute_in, figures_in, ButFor, Bytes, Reaches, ReachesRows, RefusedStays}
use Rattle.promises.proofs.Corrections.{words_fit, writes, only_then}

pub refused-stays : RefusedStays
unfolding corrected_of
refused-stays s minute f h = sym (is_not (correction_of s minute f) 0 (put_in s minute f) s s h refl)

module _ (s : List ℕ) (passes : Passes s) (r : ℕ) (there : r < rows_of s latitude) where
  abbrev a : ℕ
  a = start_of s latitude

  abbrev n : ℕ
  n = rows_of s latitude

  -- words in a latitude row
  abbrev width : ℕ
  width = width_of latitude

  abbrev minute : ℤ
  minute = minute_in s r

  ok : (check_of s).number ≡ 0
  ok = ap number_of passes

  z : (contents_of s).number ≡ 0
  z = contents-none s ok

  -- ---- a word of row r's, in the sheet and in its body
  in_body : (t : List ℕ) (k : ℕ) → k < width → word_at (part_of t a (n * width)) (width * r + k) ≡ word_at t (a + width * r + k)
  in_body t k h =
      let at : a + (width * r + k) ≡ a + width * r + k = omega arith in
      word_at-part_of t a (n * width) (width * r + k) (omega arith) ∙ ap (word_at t) at

  minute_is : (row_at (body_of s latitude) r).minute ≡ minute
  unfolding body_of
  minute_is =
      let at : width * r + 0 ≡ width * r = omega arith in
      rw at at (in_body s 0 (omega arith))

  figures_are : (t : List ℕ) → start_of t latitude ≡ a → figures_in t r ≡ figures_at (part_of t a (n * width)) r
  unfolding figures_at
  figures_are t e = rw (e, in_body t 1 (omega arith), in_body t 3 (omega arith), in_body t 5 (omega arith), in_body t 7 (omega arith))

  has : has_minute s minute ≡ true
  has = rw minute_is at (each_named s ok r there).0

  named : row_named s minute ≡ r
  named = rw minute_is at (each_named s ok r there).1

  put_is : (f : Figures) → put_in s minute f ≡ with_row s r f
  put_is f = ap (λ (i : ℕ). with_row s i f) named

  -- ---- what is put in, whatever the figures
  put_in_lem : (f : Figures) → ButFor s (put_in s minute f) r
  put_in_lem f = rw (put_is f) (record { long = length-stays s z r f; others = row_keeps s z r f there })

  put_here : (f : Figures) → FiguresFit f → figures_in (put_in s minute f) r ≡ f
  put_here f fit =
      let t = put_in s minute f in
      let but : ButFor s t r = put_in_lem f in
      let start : start_of t latitude ≡ a = start_kept s z t r there but.long but.others in
      let body : body_of t latitude ≡ part_of t a (n * width) = body_kept s z t r there but.long but.others in
      let new : body_of t latitude ≡ rewritten (body_of s latitude) n r f = rw (put_is f) (latitude_body s z r f) in
      figures_are t start
      ∙ ap (λ (u : List ℕ). figures_at u r) (sym body ∙ new)
      ∙ figures_new (body_of s latitude) n r f (omega (arith, body_long s z r f)) there fit

  same_minute : (t : List ℕ) → ButFor s t r → minute_in t r ≡ minute
  same_minute t but =
      let at : a + width * r + 0 ≡ a + width * r = omega arith in
      rw (start_kept s z t r there but.long but.others, at) (minute_kept s z t r there but.long but.others)

  keeps_minute : (f : Figures) → minute_in (corrected_of s minute f) r ≡ minute
  keeps_minute f = pick (ℕ_discrete (correction_of s minute f) 0)
    where
      pick : Dec (correction_of s minute f ≡ 0) → minute_in (corrected_of s minute f) r ≡ minute
      pick (yes e) = ap (λ (u : List ℕ). minute_in u r) (writes s passes minute f e) ∙ same_minute (put_in s minute f) (put_in_lem f)
      pick (no h) = ap (λ (u : List ℕ). minute_in u r) (refused-stays s minute f h)

  -- ---- after a correction that was accepted
  no_other : (f : Figures) → correction_of s minute f ≡ 0
      → let t = corrected_of s minute f in Passes t × ButFor s t r × (figures_in t r ≡ f) × (Bytes s → Bytes t)
  no_other f e =
      rw (writes s passes minute f e) (only_then s passes minute f e, put_in_lem f, put_here f (figures_fit f kept.range), bytes)
    where
      kept : Kept (body_of s latitude) n minute f
      kept = zero_keeps (body_of s latitude) n minute f (sym (number_is s minute f z) ∙ e)

      bytes : Bytes s → Bytes (put_in s minute f)
      bytes old q = rw (put_is f) (still_bytes s ok r f there kept.range (rw named at kept.before) (rw named at kept.after) old q)

  -- ---- a sheet that passes, and is s but for the row
  module _ (t : List ℕ) (bytes : Bytes t) (passes' : Passes t) (but : ButFor s t r) where
    abbrev f : Figures
    f = figures_in t r

    f_is : f ≡ figures_at (part_of t a (n * width)) r
    f_is = figures_are t (start_kept s z t r there but.long but.others)

    written : with_row s r f ≡ t
    written = rw f_is (only_row s z t r there but.long but.others bytes (ap number_of passes'))

    fit : FiguresFit f
    fit = figures_fit f (rw f_is (figures_range s z t r there but.long but.others bytes (ap number_of passes')))

    still : (check_of (with_row s r f)).number ≡ 0
    still = rw written (ap number_of passes')

    accepted : correction_of s minute f ≡ 0
    accepted =
        number_is s minute f z
        ∙ kept-zero (body_of s latitude) n minute f (record {
          row = has;
          range = must_range s ok r f there fit still;
          before = rw named (must_before s ok r f there fit still);
          after = rw named (must_after s ok r f there fit still);
        })

    every : (correction_of s minute f ≡ 0) × (corrected_of s minute f ≡ t)
    every = (accepted, writes s passes minute f accepted ∙ put_is f ∙ written)

  reaches : Reaches s r
  reaches = record { every = every; no_other = no_other; keeps_minute = keeps_minute; put_in_lem = put_in_lem; put_figures_lem = λ f words. put_here f (words_fit f words) }

pub reaches_rows : ReachesRows
reaches_rows s passes r there = reaches s passes r there
