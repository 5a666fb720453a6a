-- `NoneMissed` holds: a line that no differing row may touch is answered as before. Assumes nothing.
use mathlib.Core.Path.{◌≡◌, refl, sym, ap, ◌∙◌}
use mathlib.Core.Bool.{Bool, true, false, not, ◌&&◌, ◌||◌}
use mathlib.Core.List.{List}
use Prim.Native.Nat.{ℕ, ◌-◌}
use native.Mathlib.Decide.{ℕ_discrete}
use lib.IntN.{ℤ, pos}
use Rattle.rounding.proofs.Tests.{never}
use Rattle.std.proofs.Common.{Option, Some, None}
use Rattle.refusals.specs.Ladder.{need}
use Rattle.entries.specs.Layout.{latitude}
use Rattle.entries.specs.Entries.{rows_of, body_of}
use Rattle.rules.specs.declared.Figures.{Figures}
use Rattle.refusals.specs.Tests.{same_as, in_range}
use Rattle.refusals.proofs.Ranges.{same_true}
use Rattle.latitude_rows.specs.Rows.{figures_at}
use Rattle.sheet_check.specs.Check.{check_of}
use Rattle.convert.specs.Conversions.{geographic_to_plane, plane_to_geographic, convergence_and_scale}
use Rattle.minute_row.specs.MinuteRow.{from_first_minute, named_row, has_row}
use Rattle.correct.specs.Correction.{correction_of, corrected_of}
use Rattle.touched.specs.Touched.{touch, has_minute, row_named, geographic_touched, plane_touched}
use Rattle.point_line.specs.declared.Form.{Form}
use Rattle.point_line.specs.declared.Form.TheVariants.{Forward, Inverse, Convergence}
use Rattle.point_line.specs.declared.Line.{Line}
use Rattle.point_line.specs.PointLine.{by_form}
use Rattle.lines.specs.declared.Values.{Values}
use Rattle.lines.specs.Lines.{plane_values, geographic_values, grid_values, values_of}
use Rattle.corrected.proofs.Beside.{Beside}
use Rattle.corrected.proofs.AllSame.{forward_all, inverse_all}
use Rattle.differing.specs.Differing.{same_figures, minute_at, row_differs, differing_rows, any_of, differs_at, is_differing}
use Rattle.differing.proofs.OneRow.{same-figures}
use Rattle.differing.proofs.Among.{among}
use Rattle.reached.specs.Reached.{touches, either_touches, reaches}
use Rattle.compared.specs.Compared.{changes}
use Rattle.compared.proofs.Comparing.{answers-same}
use Rattle.promises.specs.Corrections.{Passes, put_in}
use Rattle.promises.specs.Redo.{NoneMissed}
use Rattle.promises.proofs.Corrections as corrections

or_false : (a b : Bool) → a || b ≡ false → a ≡ false
or_false false b h = refl
or_false true b h = h

-- ---- a line is answered alike where its form's conversion is
values_stay : (s t : List ℕ) (l : Line)
    → (l.form ≡ Forward → geographic_to_plane t l.first l.second ≡ geographic_to_plane s l.first l.second)
    → (l.form ≡ Inverse → plane_to_geographic t l.first l.second ≡ plane_to_geographic s l.first l.second)
    → convergence_and_scale t l.first l.second ≡ convergence_and_scale s l.first l.second
    → values_of t (Some l) ≡ values_of s (Some l)
unfolding values_of
values_stay s t l g p c = pick l.form refl
  where
    of : List ℕ → Form → Values
    of u f =
        by_form f
        (plane_values (geographic_to_plane u l.first l.second))
        (geographic_values (plane_to_geographic u l.first l.second))
        (grid_values (convergence_and_scale u l.first l.second))

    pick : (f : Form) → l.form ≡ f → of t f ≡ of s f
    pick Forward e = ap plane_values (g e)
    pick Inverse e = ap geographic_values (p e)
    pick Convergence e = ap grid_values c

unchanged : (s t : List ℕ) (l : Option Line) → values_of t l ≡ values_of s l → changes s t l ≡ false
unfolding changes
unchanged s t l e = rw (e, answers-same (values_of s l))

none-unchanged : (s t : List ℕ) → changes s t None ≡ false
unfolding values_of
none-unchanged s t = unchanged s t None refl

-- ---- after a correction that was accepted
second : (a b : Bool) → a && b ≡ true → b ≡ true
second true b h = h
second false true h = refl
second false false h = h

-- a row that does not differ is there, with the same figures
same_of : (h q : Bool) → need h true (not q) ≡ false → q ≡ true
unfolding need
same_of true true e = refl
same_of true false e = sym e
same_of false true e = refl
same_of false false e = sym e

module _ (s : List ℕ) (passes : Passes s) (minute : ℤ) (f : Figures) (accepted : correction_of s minute f ≡ 0) (l : Line) where
  abbrev t : List ℕ
  t = put_in s minute f

  abbrev b : List ℕ
  b = body_of s latitude

  abbrev c : List ℕ
  c = body_of t latitude

  abbrev m : ℕ
  m = rows_of t latitude

  abbrev r : ℕ
  r = row_named s minute

  ok : (check_of s).number ≡ 0
  ok = corrections.ok s passes minute f

  ok' : (check_of t).number ≡ 0
  ok' = corrections.ok' s passes minute f accepted

  has : has_minute s minute ≡ true
  has = corrections.has s passes minute f accepted

  beside : Beside s t r
  beside = corrections.beside s passes minute f accepted

  minute_own : minute_at b r ≡ minute
  unfolding has_row
  minute_own = same_true (minute_at b r) minute (second (in_range (pos 0) (from_first_minute b minute) (pos (rows_of s latitude - 1))) (same_as (minute_at b r) minute) has)

  grid-stays : (x y : ℤ) → convergence_and_scale t x y ≡ convergence_and_scale s x y
  grid-stays x y = rw (corrections.writes s passes minute f accepted) at ((corrections.locally s passes minute f accepted).grid x y)

  -- ---- the row differs, and does not touch the line
  module _ (far : touches s (Some l) minute ≡ false) where
    plane_far : l.form ≡ Forward → geographic_to_plane t l.first l.second ≡ geographic_to_plane s l.first l.second
    unfolding touches
    plane_far e =
        let says = corrections.geographic-says s passes minute f accepted s ok has l.first l.second in
        let no_touch : (geographic_touched s minute l.first l.second).touched ≡ false = rw e at far in
        rw (corrections.writes s passes minute f accepted) at ((corrections.untouched s passes minute f accepted).forward l.first l.second (says ∙ ap (touch 0) (sym (ap (λ a. a.touched) says) ∙ no_touch)))

    earth_far : l.form ≡ Inverse → plane_to_geographic t l.first l.second ≡ plane_to_geographic s l.first l.second
    unfolding touches
    earth_far e =
        let says = corrections.plane-says s passes minute f accepted s ok has l.first l.second in
        let no_touch : (plane_touched s minute l.first l.second).touched ≡ false = rw e at far in
        rw (corrections.writes s passes minute f accepted) at ((corrections.untouched s passes minute f accepted).inverse l.first l.second (says ∙ ap (touch 0) (sym (ap (λ a. a.touched) says) ∙ no_touch)))

    far_unchanged : changes s t (Some l) ≡ false
    far_unchanged = unchanged s t (Some l) (values_stay s t l plane_far earth_far (grid-stays l.first l.second))

  -- ---- the row does not differ: nor does any
  module _ (stays : row_differs b c m r ≡ false) where
    own_figures : figures_at c r ≡ figures_at b r
    unfolding row_differs
    own_figures =
        let same = same_of (has_row c m (minute_at b r)) (same_figures (figures_at b r) (figures_at c (named_row c (minute_at b r)))) stays in
        rw (corrections.row_new s passes minute f accepted) at (rw minute_own at (sym (same-figures (figures_at b r) (figures_at c (named_row c (minute_at b r))) same)))

    all_figures : (i : ℕ) → figures_at c i ≡ figures_at b i
    all_figures i = pick (ℕ_discrete i r)
      where
        pick : Dec (i ≡ r) → figures_at c i ≡ figures_at b i
        pick (yes e) = rw e own_figures
        pick (no n) = corrections.old s passes minute f accepted i n

    all_beside : (i : ℕ) → Beside s t i
    unfolding figures_at
    all_beside k =
        record {
          rows = beside.rows;
          steps = beside.steps;
          bodies = beside.bodies;
          minute = beside.minute;
          y0 = λ i h. ap (λ (g : Figures). g.y0) (all_figures i);
          h = λ i h. ap (λ (g : Figures). g.h) (all_figures i);
          v = λ i h. ap (λ (g : Figures). g.v) (all_figures i);
          a = λ i h. ap (λ (g : Figures). g.a) (all_figures i);
        }

    same_unchanged : changes s t (Some l) ≡ false
    same_unchanged =
        unchanged s t (Some l) (values_stay s t l
        (λ e.
        corrections.plane_steps s passes minute f accepted t ok' l.first l.second
        ∙ forward_all s t all_beside l.first l.second
        ∙ sym (corrections.plane_steps s passes minute f accepted s ok l.first l.second))
        (λ e.
        corrections.earth_steps s passes minute f accepted t ok' l.first l.second
        ∙ inverse_all s t all_beside l.first l.second
        ∙ sym (corrections.earth_steps s passes minute f accepted s ok l.first l.second))
        (grid-stays l.first l.second))

  -- ---- the row differs, and may touch the line
  there_differs : row_differs b c m r ≡ true → is_differing s t minute ≡ true
  unfolding is_differing differs_at
  there_differs p = rw (has, p)

  missed_none : changes s t (Some l) ≡ true → reaches s t (Some l) (differing_rows s t) ≡ true
  unfolding reaches
  missed_none changed = by_row (row_differs b c m r) refl (either_touches s t (Some l) minute) refl
    where
      by_row : (d : Bool) → row_differs b c m r ≡ d → (e : Bool) → either_touches s t (Some l) minute ≡ e → any_of (either_touches s t (Some l)) (differing_rows s t) ≡ true
      by_row false p e q = never (sym (same_unchanged p) ∙ changed)
      by_row true p false q = never (sym (far_unchanged (or_false (touches s (Some l) minute) (touches t (Some l) minute) q)) ∙ changed)
      by_row true p true q = among s t ok (either_touches s t (Some l)) minute (there_differs p) q

pub none_missed : NoneMissed
none_missed s passes minute f accepted None changed = never (sym (none-unchanged s (corrected_of s minute f)) ∙ changed)
none_missed s passes minute f accepted (Some l) changed =
    rw (corrections.writes s passes minute f accepted) (missed_none s passes minute f accepted l (rw (corrections.writes s passes minute f accepted) at changed))
