-- Demand 3 holds: `Corrects`, `Afresh`, `Local` and `Untouched`, of every sheet that passes, every minute and all figures of 32 bits. Assumes nothing.
use mathlib.Core.Path.{◌≡◌, refl, sym, ap, subst, ◌∙◌}
use mathlib.Core.Bool.{Bool, true, false, ◌&&◌}
use mathlib.Core.List.{List}
use mathlib.Core.Logic.{◌⊎◌, inl, inr}
use Prim.Native.Nat.{ℕ, ◌+◌, ◌-◌, ◌*◌, ◌<◌, ◌≤◌}
use native.Mathlib.Decide.{ℕ_discrete, dec_lt}
use native.Mathlib.Omega.{arith}
use borrow.Author.Tests.{leb-true, ltb-false}
use lib.Dec.{T}
use lib.IntN.{ℤ, pos, negsuc, nat_abs, ◌+ℤ◌, ◌-ℤ◌, ◌*ℤ◌, -ℤ-+ℤ_cancel}
use lib.ListN.{length, get_or}
use lib.Signed.{le_z, lt_z}
use mir.Syntax.{w32}
use mir.Val.{SFits}
use Rattle.rounding.proofs.Order.{above_of, not_above_of, not_below_of, lt_z-le_z, le_z-lt_z, le_z_shift}
use Rattle.words.specs.Words.{word_at}
use Rattle.refusals.specs.Ladder.{need, where_below}
use Rattle.refusals.proofs.Ladders.{past, where_below_lem, where_beyond, is, is_not}
use Rattle.rules.specs.Latitude.{most_rise}
use Rattle.entries.specs.Layout.{latitude, width_of, one_minute}
use Rattle.entries.specs.Entries.{start_of, rows_of, body_of}
use Rattle.contents.specs.Contents.{number_of, contents_of}
use Rattle.rules.specs.declared.Figures.{Figures}
use Rattle.latitude_rows.specs.Rows.{figures_at}
use Rattle.sheet_check.specs.Check.{check_of}
use Rattle.tables.specs.Figures.{y0_of}
use Rattle.sheet_check.proofs.Known.{contents-none}
use Rattle.row_search.specs.Rows.{RisesBy}
use Rattle.tables.proofs.Ranges.{latitude-some, y0_rises}
use Rattle.extent.specs.Extent.{latitude_known, longitude_known, x_prime, easting_known, northing_known, reduced_known}
use Rattle.forward.specs.Forward.{forward_of}
use Rattle.inverse.specs.Inverse.{reduced_northing, inverse_of}
use Rattle.convergence.specs.Grid.{grid_of}
use Rattle.convert.specs.Conversions.{geographic_to_plane, plane_to_geographic, convergence_and_scale}
use Rattle.convert.proofs.Checked.{forward-passes, inverse-passes, grid-passes, after_pass}
use Rattle.minute_row.specs.MinuteRow.{from_first_minute, has_row}
use Rattle.judge.specs.Judge.{judged_by}
use Rattle.correct.specs.Correction.{correction_of, corrected_of}
use Rattle.minute_row.proofs.Place.{row_there}
use Rattle.writing.proofs.RowWords.{FiguresFit, figures_fit}
use Rattle.correct.proofs.Rewritten.{minutes_stay, figures_stay, figures_new}
use Rattle.judge.proofs.Kept.{Kept, zero_keeps, kept-zero}
use Rattle.correct.proofs.Judged.{number_is}
use Rattle.touched.specs.Touched.{touch, no_touch, has_minute, row_named, near_row, forward_touched, above_prior, below_next, inverse_touched, geographic_touched, plane_touched}
use Rattle.touched.proofs.Beside.{two_rows}
use Rattle.batch.specs.Batch.{pairs, point_at, words_of, taken, batch_of, answers_of}
use Rattle.batch.proofs.Written.{answer_on_pass, memory_on_pass, point_words}
use Rattle.door.specs.Door as door
use Rattle.door.specs.Door.{counts_of, plane_answer, geographic_answer, grid_answer, to_plane, to_geographic, to_grid}
use Rattle.door.proofs.Ways.{same_door, same-counts}
use Rattle.door.proofs.Told.{tells_as, plane-tells, geographic-tells, grid-tells}
use Rattle.door.specs.Door.{Answer}
use Rattle.counts.specs.Whole.{whole_of}
use Rattle.promises.specs.Corrections.{Passes, Word, Words, put_in, FarLatitude, SameTold, Corrects, Afresh, Local, Untouched, Demand3, EachRow}
use Rattle.corrected.proofs.WithRow.{body_long, rows_stay, step_stays, body_stays, latitude_body}
use Rattle.corrected.proofs.OtherBytes.{other_bytes}
use Rattle.corrected.proofs.WholeCheck.{passes_with, must_range, must_before, must_after}
use Rattle.corrected.proofs.Beside.{Beside, latitude_rows, latitude-same, longitude-same, x_prime_same, easting-same, northing-same, y0_row-same}
use Rattle.corrected.proofs.SameAnswers.{Apart, forward-same, inverse-same, grid-same, reduced_same}
use Rattle.minute_row.proofs.Minutes.{each_named}
use Rattle.corrected.proofs.Minutes.{far_outside}

-- ---- figures of 32 bits are words
word_fits : (z : ℤ) → Word z → SFits w32 z
word_fits (pos n) h = record { sfits = omega (arith, leb-true n 2_147_483_647 h.1) }
word_fits (negsuc n) h = record { sfits = omega (arith, leb-true n 2_147_483_647 h.0) }

pub words_fit : (f : Figures) → Words f → FiguresFit f
words_fit f h = record { y0 = word_fits f.y0 h.0; h = word_fits f.h h.1; v = word_fits f.v h.2; a = word_fits f.a h.3 }

-- ---- how far the first y0 and the last of a sheet that passes can lie from their neighbours
module _ (s : List ℕ) (ok : (check_of s).number ≡ 0) (z : ℤ) where
  abbrev rows : ℕ
  rows = rows_of s latitude

  below_first : le_z (y0_of s 1 -ℤ pos most_rise) z ≡ false → reduced_known s z ≡ false
  unfolding reduced_known RisesBy
  below_first e =
      let reach : le_z (y0_of s 1) (y0_of s 0 +ℤ pos most_rise) ≡ true = (y0_rises s ok 0 (omega (arith, two_rows s ok))).1 in
      let least : le_z (y0_of s 1 -ℤ pos most_rise) (y0_of s 0) ≡ true =
      sym (le_z_shift (y0_of s 1 -ℤ pos most_rise) (y0_of s 0) (pos most_rise)) ∙ rw (-ℤ-+ℤ_cancel (y0_of s 1) (pos most_rise)) reach in
      rw (not_above_of (y0_of s 0) z (lt_z-le_z z (y0_of s 1 -ℤ pos most_rise) (y0_of s 0) (above_of (y0_of s 1 -ℤ pos most_rise) z e) least))

  above_last : le_z z (y0_of s (rows - 2) +ℤ pos most_rise) ≡ false → reduced_known s z ≡ false
  unfolding reduced_known RisesBy
  above_last e =
      let next : rows - 2 + 1 ≡ rows - 1 = omega (arith, two_rows s ok) in
      let reach : le_z (y0_of s (rows - 1)) (y0_of s (rows - 2) +ℤ pos most_rise) ≡ true = rw next at (y0_rises s ok (rows - 2) (omega (arith, two_rows s ok))).1 in
      let over : le_z z (y0_of s (rows - 1)) ≡ false =
      not_above_of z (y0_of s (rows - 1)) (le_z-lt_z (y0_of s (rows - 1)) (y0_of s (rows - 2) +ℤ pos most_rise) z reach (above_of z (y0_of s (rows - 2) +ℤ pos most_rise) e)) in
      rw over (and-false (le_z (y0_of s 0) z))
    where
      and-false : (p : Bool) → (p && false) ≡ false
      and-false true = refl
      and-false false = refl

module _ (s : List ℕ) (passes : Passes s) (minute : ℤ) (f : Figures) where
  abbrev b : List ℕ
  b = body_of s latitude

  abbrev n : ℕ
  n = rows_of s latitude

  abbrev r : ℕ
  r = row_named s minute

  pub ok : (check_of s).number ≡ 0
  ok = ap number_of passes

  z : (contents_of s).number ≡ 0
  z = contents-none s ok

  -- ---- the correction itself
  keeps : correction_of s minute f ≡ 0 → Kept b n minute f
  keeps e = zero_keeps b n minute f (sym (number_is s minute f z) ∙ e)

  pub there : has_minute s minute ≡ true → r < n
  there has = row_there b n minute has (latitude-some s ok)

  pub writes : correction_of s minute f ≡ 0 → corrected_of s minute f ≡ put_in s minute f
  unfolding corrected_of
  writes e = sym (is (correction_of s minute f) 0 (put_in s minute f) s (put_in s minute f) e refl)

  stays : (correction_of s minute f ≡ 0 → ⊥) → corrected_of s minute f ≡ s
  unfolding corrected_of
  stays h = sym (is_not (correction_of s minute f) 0 (put_in s minute f) s s h refl)

  bytes_stay : (q : ℕ) → (q < 4 * (start_of s latitude + width_of latitude * (r - 1))) ⊎ (4 * (start_of s latitude + width_of latitude * r + width_of latitude) ≤ q) → get_or (corrected_of s minute f) q 0 ≡ get_or s q 0
  bytes_stay q far = pick (ℕ_discrete (correction_of s minute f) 0)
    where
      pick : Dec (correction_of s minute f ≡ 0) → get_or (corrected_of s minute f) q 0 ≡ get_or s q 0
      pick (yes e) = ap (λ (u : List ℕ). get_or u q 0) (writes e) ∙ other_bytes s z r f q far
      pick (no h) = ap (λ (u : List ℕ). get_or u q 0) (stays h)

  pub only_then : correction_of s minute f ≡ 0 → Passes (put_in s minute f)
  only_then e = let k = keeps e in passes_with s ok r f (there k.row) k.range k.before k.after

  no_row : has_minute s minute ≡ false → correction_of s minute f ≡ 16
  unfolding judged_by need
  no_row h = number_is s minute f z ∙ rw h

  always_then : Words f → has_minute s minute ≡ true → Passes (put_in s minute f) → correction_of s minute f ≡ 0
  always_then words has p =
      let q : (check_of (put_in s minute f)).number ≡ 0 = ap number_of p in
      number_is s minute f z
      ∙ kept-zero b n minute f (record {
        row = has;
        range = must_range s ok r f (there has) (words_fit f words) q;
        before = must_before s ok r f (there has) (words_fit f words) q;
        after = must_after s ok r f (there has) (words_fit f words) q;
      })

  pub corrects : Words f → Corrects s minute f
  corrects words = record { only_then = only_then; always_then = always_then words; no_row = no_row; writes = writes; stays = stays; other_bytes = bytes_stay }

  -- ---- after a correction that was accepted
  module _ (accepted : correction_of s minute f ≡ 0) where
    abbrev t : List ℕ
    t = put_in s minute f

    pub ok' : (check_of t).number ≡ 0
    ok' = ap number_of (only_then accepted)

    pub has : has_minute s minute ≡ true
    has = (keeps accepted).row

    pub old : (i : ℕ) → (i ≡ r → ⊥) → figures_at (body_of t latitude) i ≡ figures_at b i
    old i h = rw (latitude_body s z r f) (figures_stay b n r f i h)

    new : figures_at (body_of t latitude) r ≡ f
    new = rw (latitude_body s z r f) (figures_new b n r f (omega (arith, body_long s z r f)) (there has) (figures_fit f (keeps accepted).range))

    -- t is s but for row r's figures
    pub beside : Beside s t r
    unfolding figures_at
    beside =
        record {
          rows = λ kind l h. rows_stay s z r f kind l h;
          steps = λ kind l h. step_stays s z r f kind l h;
          bodies = λ kind l h other. body_stays s z r f kind l h other;
          minute = rw (latitude_body s z r f) (minutes_stay b n r f 0);
          y0 = λ i h. ap (λ (g : Figures). g.y0) (old i h);
          h = λ i h. ap (λ (g : Figures). g.h) (old i h);
          v = λ i h. ap (λ (g : Figures). g.v) (old i h);
          a = λ i h. ap (λ (g : Figures). g.a) (old i h);
        }

    -- a conversion on a sheet that passes is what comes after the check
    pub plane_steps : (u : List ℕ) → (check_of u).number ≡ 0 → (north west : ℤ) → geographic_to_plane u north west ≡ forward_of u north west
    plane_steps u q north west = sym (forward-passes u north west (forward_of u north west) q refl)

    pub earth_steps : (u : List ℕ) → (check_of u).number ≡ 0 → (x y : ℤ) → plane_to_geographic u x y ≡ inverse_of u x y
    earth_steps u q x y = sym (inverse-passes u x y (inverse_of u x y) q refl)

    grid_steps : (u : List ℕ) → (check_of u).number ≡ 0 → (x y : ℤ) → convergence_and_scale u x y ≡ grid_of u x y
    grid_steps u q x y = sym (grid-passes u x y (grid_of u x y) q refl)

    pub afresh : Afresh s minute f
    afresh =
        record {
          new_figures = ap (λ (u : List ℕ). figures_at (body_of u latitude) r) (writes accepted) ∙ new;
          old_figures = λ i h. ap (λ (u : List ℕ). figures_at (body_of u latitude) i) (writes accepted) ∙ old i h;
          forward = λ north west. ap (λ (u : List ℕ). geographic_to_plane u north west) (writes accepted) ∙ plane_steps t ok' north west;
          inverse = λ x y. ap (λ (u : List ℕ). plane_to_geographic u x y) (writes accepted) ∙ earth_steps t ok' x y;
          grid = λ x y. ap (λ (u : List ℕ). convergence_and_scale u x y) (writes accepted) ∙ grid_steps t ok' x y;
          batch_point = λ points i. ap (λ (u : List ℕ). point_at u points i) (writes accepted) ∙ plane_steps t ok' (get_or points (2 * i) (pos 0)) (get_or points (2 * i + 1) (pos 0));
          batch = λ points old. ap (λ (u : List ℕ). batch_of u points old) (writes accepted) ∙ answer_on_pass t ok' points old;
          batch-memory = λ points old. ap (λ (u : List ℕ). answers_of u points old) (writes accepted) ∙ memory_on_pass t ok' points old;
          door_plane = λ p. ap (λ (u : List ℕ). to_plane u p) (writes accepted) ∙ same_door (counts_of p) _ _ (λ north west. ap plane_answer (plane_steps t ok' north west));
          door_geographic = λ p. ap (λ (u : List ℕ). to_geographic u p) (writes accepted) ∙ same_door (counts_of p) _ _ (λ x y. ap geographic_answer (earth_steps t ok' x y));
          door_grid = λ p. ap (λ (u : List ℕ). to_grid u p) (writes accepted) ∙ same_door (counts_of p) _ _ (λ x y. ap grid_answer (grid_steps t ok' x y));
          told-plane = rw (writes accepted) (tells_as (to_plane t) (geographic_to_plane t) (forward_of t) (λ a. a.number) (λ a. a.x) (λ a. a.y) (λ a. a.half) (plane_steps t ok') (plane-tells t));
          told-geographic = rw (writes accepted) (tells_as (to_geographic t) (plane_to_geographic t) (inverse_of t) (λ a. a.number) (λ a. a.latitude) (λ a. a.longitude) (λ a. a.half) (earth_steps t ok') (geographic-tells t));
          told-grid = rw (writes accepted) (tells_as (to_grid t) (convergence_and_scale t) (grid_of t) (λ a. a.number) (λ a. a.convergence) (λ a. a.scale) (λ a. a.half) (grid_steps t ok') (grid-tells t));
        }

    -- ---- the answers that stay
    plane-stays : (north west : ℤ) → (latitude_known s north ≡ true → longitude_known s west ≡ true → FarLatitude minute north)
        → geographic_to_plane (corrected_of s minute f) north west ≡ geographic_to_plane s north west
    plane-stays north west far =
        afresh.forward north west
        ∙ forward-same s t r beside north west (λ k l. far_outside s ok minute has north k (far k l))
        ∙ sym (plane_steps s ok north west)

    earth_stays : (x y : ℤ)
        → (easting_known s (x_prime s x) ≡ true → northing_known s y ≡ true → Apart s t r beside (there has) ok ok' (reduced_northing s (nat_abs (x_prime s x)) y))
        → plane_to_geographic (corrected_of s minute f) x y ≡ plane_to_geographic s x y
    earth_stays x y apart = afresh.inverse x y ∙ inverse-same s t r beside (there has) ok ok' x y apart ∙ sym (earth_steps s ok x y)

    -- a batch's word: of a batch that is taken, and of one that is not
    batch-stays : (points old : List ℤ) (i k : ℕ) → i < pairs points → k < 3 → FarLatitude minute (get_or points (2 * i) (pos 0))
        → get_or (answers_of (corrected_of s minute f) points old) (3 * i + k) (pos 0) ≡ get_or (answers_of s points old) (3 * i + k) (pos 0)
    unfolding need
    batch-stays points old i k l h far = ap (λ (u : List ℕ). get_or (answers_of u points old) (3 * i + k) (pos 0)) (writes accepted) ∙ pick (taken (length points) (length old)) refl
      where
        same : point_at t points i ≡ point_at s points i
        same = ap (λ (u : List ℕ). point_at u points i) (sym (writes accepted)) ∙ plane-stays (get_or points (2 * i) (pos 0)) (get_or points (2 * i + 1) (pos 0)) (λ a b. far)

        pick : (b : Bool) → taken (length points) (length old) ≡ b → get_or (answers_of t points old) (3 * i + k) (pos 0) ≡ get_or (answers_of s points old) (3 * i + k) (pos 0)
        pick true e =
            point_words t ok' points old e i k l h ∙ ap (λ a. get_or (words_of a) k (pos 0)) same ∙ sym (point_words s ok points old e i k l h)
        pick false e = rw (memory_on_pass t ok' points old, memory_on_pass s ok points old, e)

    grid-stays : (x y : ℤ) → convergence_and_scale (corrected_of s minute f) x y ≡ convergence_and_scale s x y
    grid-stays x y = ap (λ (u : List ℕ). convergence_and_scale u x y) (writes accepted) ∙ grid_steps t ok' x y ∙ grid-same s t r beside x y ∙ sym (grid_steps s ok x y)

    -- what the door tells
    same-told : {a b : Answer} → a ≡ b → SameTold a b
    same-told e = record { whole = e; numbered = ap door.number_of e; one = ap door.first_of e; two = ap door.second_of e; marked = ap door.half_of e }

    pub locally : Local s minute f
    locally =
        record {
          forward = λ north west far. plane-stays north west (λ k l. far);
          inverse = λ x y far. earth_stays x y (λ k l. inl (far k l));
          grid = grid-stays;
          batch = batch-stays;
          door_plane = λ p far. same-told (same-counts (whole_of p.first) (whole_of p.second) _ _ (λ e h. ap plane_answer (plane-stays _ _ (λ k l. far e h))));
          door_geographic = λ p far. same-told (same-counts (whole_of p.first) (whole_of p.second) _ _ (λ e h. ap geographic_answer (earth_stays _ _ (λ k l. inl (far e h k l)))));
          door_grid = λ p. same-told (same_door (counts_of p) _ _ (λ x y. ap grid_answer (grid-stays x y)));
        }

    -- ---- what `touched` says
    module _ (u : List ℕ) (q : (check_of u).number ≡ 0) (h : has_minute u minute ≡ true) where
      pub geographic-says : (north west : ℤ) → geographic_touched u minute north west ≡ touch 0 (forward_touched u minute north west)
      unfolding geographic_touched
      geographic-says north west =
          after_pass (λ a. a.number) no_touch (λ m. refl) u (need (has_minute u minute) (no_touch 16) (touch 0 (forward_touched u minute north west))) q
          ∙ past (no_touch 16) (touch 0 (forward_touched u minute north west)) h

      pub plane-says : (x y : ℤ) → plane_touched u minute x y ≡ touch 0 (inverse_touched u (row_named u minute) x y)
      unfolding plane_touched
      plane-says x y =
          after_pass (λ a. a.number) no_touch (λ m. refl) u (need (has_minute u minute) (no_touch 16) (touch 0 (inverse_touched u (row_named u minute) x y))) q
          ∙ past (no_touch 16) (touch 0 (inverse_touched u (row_named u minute) x y)) h

    -- no, of a geographic point that the conversion answers: it is far
    says_far : (north west : ℤ) → forward_touched s minute north west ≡ false → latitude_known s north ≡ true → longitude_known s west ≡ true → FarLatitude minute north
    unfolding forward_touched near_row
    says_far north west e k l =
        ltb-false (nat_abs (north -ℤ minute *ℤ pos one_minute)) one_minute
        (sym (past false (near_row minute north) l) ∙ sym (past false (need (longitude_known s west) false (near_row minute north)) k) ∙ e)

    -- and of a plane point: it is far, or beyond what the first row's y0, or the last row's, can reach
    abbrev Stays : ℤ → Type 0
    Stays reduced = Apart s t r beside (there has) ok ok' reduced

    prior_stays : (reduced : ℤ) → above_prior s r reduced ≡ false → Stays reduced
    unfolding above_prior
    prior_stays reduced e = pick (dec_lt 0 r)
      where
        pick : Dec (0 < r) → Stays reduced
        pick (yes h) = inl (inl (h, not_below_of (y0_of s (r - 1)) reduced (sym (where_below_lem 0 r (lt_z (y0_of s (r - 1)) reduced) (le_z (y0_of s (r + 1) -ℤ pos most_rise) reduced) h) ∙ e)))
        pick (no h) =
            let first : r ≡ 0 = omega arith in
            let below = sym (where_beyond 0 r (lt_z (y0_of s (r - 1)) reduced) (le_z (y0_of s (r + 1) -ℤ pos most_rise) reduced) (omega arith)) ∙ e in
            inr (below_first s ok reduced (rw first at below), below_first t ok' reduced (rw (y0_row-same s t r beside 1 (λ q. omega arith)) (rw first at below)))

    next-stays : (reduced : ℤ) → below_next s r reduced ≡ false → Stays reduced
    unfolding below_next
    next-stays reduced e = pick (dec_lt (r + 1) n)
      where
        pick : Dec (r + 1 < n) → Stays reduced
        pick (yes h) =
            inl (inr (h, not_below_of reduced (y0_of s (r + 1)) (sym (where_below_lem (r + 1) n (lt_z reduced (y0_of s (r + 1))) (le_z reduced (y0_of s (r - 1) +ℤ pos most_rise)) h) ∙ e)))
        pick (no h) =
            let last : r ≡ n - 1 = omega (arith, there has) in
            let before : r - 1 ≡ n - 2 = omega arith in
            let above = sym (where_beyond (r + 1) n (lt_z reduced (y0_of s (r + 1))) (le_z reduced (y0_of s (r - 1) +ℤ pos most_rise)) (omega arith)) ∙ e in
            let above' = rw before at above in
            inr (above_last s ok reduced above', above_last t ok' reduced (rw (latitude_rows s t r beside, y0_row-same s t r beside (n - 2) (λ q. omega (arith, two_rows s ok))) above'))

    says_aside : (x y : ℤ) → inverse_touched s r x y ≡ false → easting_known s (x_prime s x) ≡ true → northing_known s y ≡ true → Stays (reduced_northing s (nat_abs (x_prime s x)) y)
    unfolding inverse_touched
    says_aside x y e k l = pick (above_prior s r reduced) refl (below_next s r reduced) refl both_say
      where
        reduced : ℤ
        reduced = reduced_northing s (nat_abs (x_prime s x)) y

        both_say : (above_prior s r reduced && below_next s r reduced) ≡ false
        both_say = sym (past false _ l) ∙ sym (past false _ k) ∙ e

        pick : (p : Bool) → above_prior s r reduced ≡ p → (q : Bool) → below_next s r reduced ≡ q → (p && q) ≡ false → Stays reduced
        pick false h q g no_touch = prior_stays reduced h
        pick true h false g no_touch = next-stays reduced g
        pick true h true g no_touch = absurd (subst T no_touch tt)

    -- ---- the new sheet says the same
    has_new : has_minute t minute ≡ true
    unfolding has_row from_first_minute
    has_new =
        rw (latitude_body s z r f, latitude_rows s t r beside, minutes_stay b n r f 0, minutes_stay b n r f (nat_abs (minute -ℤ word_at b (width_of latitude * 0)))) has

    pub row_new : row_named t minute ≡ r
    unfolding from_first_minute
    row_new = rw (latitude_body s z r f, minutes_stay b n r f 0)

    forward-says : (north west : ℤ) → forward_touched t minute north west ≡ forward_touched s minute north west
    unfolding forward_touched
    forward-says north west = rw (latitude-same s t r beside north, longitude-same s t r beside west)

    prior_says : (reduced : ℤ) → above_prior t r reduced ≡ above_prior s r reduced
    unfolding above_prior
    prior_says reduced = pick (dec_lt 0 r)
      where
        next : y0_of t (r + 1) ≡ y0_of s (r + 1)
        next = y0_row-same s t r beside (r + 1) (λ e. omega arith)

        least : Bool
        least = le_z (y0_of s (r + 1) -ℤ pos most_rise) reduced

        pick : Dec (0 < r) → where_below 0 r (lt_z (y0_of t (r - 1)) reduced) (le_z (y0_of t (r + 1) -ℤ pos most_rise) reduced) ≡ where_below 0 r (lt_z (y0_of s (r - 1)) reduced) least
        pick (yes h) = rw (y0_row-same s t r beside (r - 1) (λ e. omega arith), next)
        pick (no h) = rw next (where_beyond 0 r (lt_z (y0_of t (r - 1)) reduced) least (omega arith) ∙ sym (where_beyond 0 r (lt_z (y0_of s (r - 1)) reduced) least (omega arith)))

    next-says : (reduced : ℤ) → below_next t r reduced ≡ below_next s r reduced
    unfolding below_next
    next-says reduced = pick (dec_lt (r + 1) n)
      where
        next : y0_of t (r + 1) ≡ y0_of s (r + 1)
        next = y0_row-same s t r beside (r + 1) (λ e. omega arith)

        pick : Dec (r + 1 < n)
            → where_below (r + 1) (rows_of t latitude) (lt_z reduced (y0_of t (r + 1))) (le_z reduced (y0_of t (r - 1) +ℤ pos most_rise))
            ≡ where_below (r + 1) n (lt_z reduced (y0_of s (r + 1))) (le_z reduced (y0_of s (r - 1) +ℤ pos most_rise))
        pick (yes h) =
            rw (latitude_rows s t r beside, next)
            (where_below_lem (r + 1) n (lt_z reduced (y0_of s (r + 1))) (le_z reduced (y0_of t (r - 1) +ℤ pos most_rise)) h
            ∙ sym (where_below_lem (r + 1) n (lt_z reduced (y0_of s (r + 1))) (le_z reduced (y0_of s (r - 1) +ℤ pos most_rise)) h))
        pick (no h) = rw (latitude_rows s t r beside, next, y0_row-same s t r beside (r - 1) (λ e. omega (arith, two_rows s ok)))

    inverse-says : (x y : ℤ) → inverse_touched t (row_named t minute) x y ≡ inverse_touched s r x y
    unfolding inverse_touched
    inverse-says x y =
        let reduced = reduced_northing s (nat_abs (x_prime s x)) y in
        rw (
          row_new,
          x_prime_same s t r beside x,
          easting-same s t r beside (x_prime s x),
          northing-same s t r beside y,
          reduced_same s t r beside (nat_abs (x_prime s x)) y,
          prior_says reduced,
          next-says reduced,
        )

    pub untouched : Untouched s minute f
    untouched =
        record {
          forward = λ north west e. plane-stays north west (says_far north west (ap (λ a. a.touched) (sym (geographic-says s ok has north west) ∙ e)));
          inverse = λ x y e. earth_stays x y (says_aside x y (ap (λ a. a.touched) (sym (plane-says s ok has x y) ∙ e)));
          either_forward = λ north west.
              ap (λ (u : List ℕ). geographic_touched u minute north west) (writes accepted)
              ∙ geographic-says t ok' has_new north west
              ∙ ap (touch 0) (forward-says north west)
              ∙ sym (geographic-says s ok has north west);
          either_inverse = λ x y.
              ap (λ (u : List ℕ). plane_touched u minute x y) (writes accepted) ∙ plane-says t ok' has_new x y ∙ ap (touch 0) (inverse-says x y) ∙ sym (plane-says s ok has x y);
        }

-- ---- the demand
pub demand_3 : Demand3
demand_3 s passes minute f words = (corrects s passes minute f words, λ e. (afresh s passes minute f e, locally s passes minute f e, untouched s passes minute f e))

pub each_row : EachRow
each_row s passes r there = let e = each_named s (ap number_of passes) r there in record { has = e.0; row = e.1 }
