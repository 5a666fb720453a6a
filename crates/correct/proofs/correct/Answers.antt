-- `correct::correct` meets its contract. Assumes nothing.
use mathlib.Core.Path.{◌≡◌, refl, sym, ◌∙◌}
use lib.Dec.{lit≤}
use mir.Syntax.{w32}
use mir.Val.{to_z, of_z}
use Rattle.refusals.specs.Numbers.{number}
use Rattle.refusals.proofs.Numbers.{number-some}
use Rattle.refusals.proofs.Handed.{handed}
use Rattle.entries.specs.Layout.{latitude}
use Rattle.contents.specs.Contents.{contents_of, Placed}
use Rattle.contents.proofs.Cut.{start_fits, words_fit, bytes_fit, end_fits, ends-within, rows_there}
use Rattle.sheet_check.proofs.Parts.{long_enough}
use Rattle.correct.specs.Correction.{figures}
use Rattle.correct.proofs.Judged.{contents_refuse, lent_rows, sheet_number, sheet_after}
use borrow.Author.Rules.{rules}
use Rattle.correct.proofs.correct.Goals as goal
use Rattle.correct.proofs.correct.Goals.{After-correct_body, After-place_of-place}

-- the latitude body's place
placed : (c : After-place_of-place) → Placed c.args.sheet.now latitude c.place_of-place.result
placed c = record { contents = sym c.in_ok-faultless.ensures; place = c.place_of-place.ensures; least = lit≤ tt; most = lit≤ tt }

pub returns-in_err-faultless-clause-answer : goal.returns-in_err-faultless-clause-answer
returns-in_err-faultless-clause-answer c =
    let told = c.in_err-faultless.ensures in
    handed number _ _ c.from_residual.ensures.1 ∙ told ∙ (contents_refuse _ _ _ (contents_of _) refl (λ z. number-some _ (told ∙ z))).0

pub returns-in_err-faultless-clause-memory : goal.returns-in_err-faultless-clause-memory
returns-in_err-faultless-clause-memory c = (contents_refuse _ _ _ (contents_of _) refl (λ z. number-some _ (c.in_err-faultless.ensures ∙ z))).1

pub place_of-place-requires : goal.place_of-place-requires
place_of-place-requires c = long_enough _ (sym c.in_ok-faultless.ensures)

pub overflow_mul-start : goal.overflow_mul-start
overflow_mul-start c = start_fits _ latitude _ (placed (goal.at.overflow_mul-start c).After-place_of-place)

pub overflow_mul-end : goal.overflow_mul-end
overflow_mul-end c = words_fit _ latitude _ (placed (goal.at.overflow_mul-end c).After-place_of-place) _ refl

pub overflow_mul-end-2 : goal.overflow_mul-end-2
overflow_mul-end-2 c = bytes_fit _ latitude _ (placed (goal.at.overflow_mul-end-2 c).After-place_of-place) _ refl

pub overflow_add-end : goal.overflow_add-end
overflow_add-end c = end_fits _ latitude _ (placed (goal.at.overflow_add-end c).After-place_of-place) _ refl

pub slice_bounds-correct_body-end : goal.slice_bounds-correct_body-end
slice_bounds-correct_body-end c = ends-within _ latitude _ (placed (goal.at.slice_bounds-correct_body-end c).After-place_of-place) _ refl

pub correct_body-requires : goal.correct_body-requires
correct_body-requires c = (rows_there _ latitude _ (placed (goal.at.correct_body-requires c).After-place_of-place), lent_rows _ _ (placed (goal.at.correct_body-requires c).After-place_of-place))

-- the minute and the figures, as they were given
module _ (c : After-correct_body) where
  minute_is : to_z w32 (of_z w32 c.args.minute) ≡ c.args.minute
  minute_is = search rules

  figures_are : figures (to_z w32 (of_z w32 c.args.y0)) (to_z w32 (of_z w32 c.args.h)) (to_z w32 (of_z w32 c.args.v)) (to_z w32 (of_z w32 c.args.a)) ≡ figures c.args.y0 c.args.h c.args.v c.args.a
  figures_are =
      let a = c.args in
      let y0 : to_z w32 (of_z w32 a.y0) ≡ a.y0 = search rules in
      let h : to_z w32 (of_z w32 a.h) ≡ a.h = search rules in
      let v : to_z w32 (of_z w32 a.v) ≡ a.v = search rules in
      let last : to_z w32 (of_z w32 a.a) ≡ a.a = search rules in
      rw (y0, h, v, last)

pub returns-clause-answer : goal.returns-clause-answer
returns-clause-answer c =
    sheet_number _ _ _ _ (placed (goal.at.returns-clause-answer c).After-place_of-place) _ (c.correct_body.ensures.answer ∙ rw (minute_is (goal.at.returns-clause-answer c).After-correct_body, figures_are (goal.at.returns-clause-answer c).After-correct_body))

pub returns-clause-memory : goal.returns-clause-memory
returns-clause-memory c =
    sheet_after _ _ _ _ (placed (goal.at.returns-clause-memory c).After-place_of-place) _ (c.correct_body.ensures.memory ∙ rw (minute_is (goal.at.returns-clause-memory c).After-correct_body, figures_are (goal.at.returns-clause-memory c).After-correct_body))
