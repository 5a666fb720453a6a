-- `judge::judge` meets its contract. Assumes nothing.
use mathlib.Core.Path.{◌≡◌, refl, ◌∙◌}
use mir.Syntax.{w32}
use mir.Val.{to_z, of_z}
use Rattle.refusals.proofs.Ladders.{stop, go}
use Rattle.judge.specs.Judge.{judged_by}
use Rattle.judge.proofs.Kept.{by_row, no_row, row_found}
use borrow.Author.Rules.{rules}
use Rattle.judge.proofs.judge.Goals as goal
use Rattle.judge.proofs.judge.Goals.{In-Some}

-- past the row
row_is : (c : In-Some) → by_row c.args.b.now c.args.n c.args.minute c.args.f c.in-Some.r ≡ judged_by c.args.b.now c.args.n c.args.minute c.args.f
row_is c =
    let same : to_z w32 (of_z w32 c.args.minute) ≡ c.args.minute = search rules in
    row_found _ _ _ _ (rw same at c.in-Some.ensures.0) _ (rw same at c.in-Some.ensures.1)

pub returns-in_default-clause-number : goal.returns-in_default-clause-number
returns-in_default-clause-number c =
    let same : to_z w32 (of_z w32 c.args.minute) ≡ c.args.minute = search rules in
    no_row _ _ _ _ (rw same at c.in_default.ensures)

pub returns-then-not-figures_in_range-clause-number : goal.returns-then-not-figures_in_range-clause-number
returns-then-not-figures_in_range-clause-number c =
    stop _ _ _ _ c.figures_in_range.ensures c.if-not-figures_in_range.true
    ∙ row_is (goal.at.returns-then-not-figures_in_range-clause-number c).In-Some

pub returns-then-not-bound_before-clause-number : goal.returns-then-not-bound_before-clause-number
returns-then-not-bound_before-clause-number c =
    go _ _ _ _ _ c.figures_in_range.ensures c.if-not-figures_in_range.false
    (stop _ _ _ _ c.bound_before.ensures c.if-not-bound_before.true)
    ∙ row_is (goal.at.returns-then-not-bound_before-clause-number c).In-Some

pub returns-then-not-bound_after-clause-number : goal.returns-then-not-bound_after-clause-number
returns-then-not-bound_after-clause-number c =
    go _ _ _ _ _ c.figures_in_range.ensures c.if-not-figures_in_range.false
    (go _ _ _ _ _ c.bound_before.ensures c.if-not-bound_before.false
    (stop _ _ _ _ c.bound_after.ensures c.if-not-bound_after.true))
    ∙ row_is (goal.at.returns-then-not-bound_after-clause-number c).In-Some

pub returns-clause-number : goal.returns-clause-number
returns-clause-number c =
    go _ _ _ _ _ c.figures_in_range.ensures c.if-not-figures_in_range.false
    (go _ _ _ _ _ c.bound_before.ensures c.if-not-bound_before.false
    (go _ _ _ _ _ c.bound_after.ensures c.if-not-bound_after.false refl))
    ∙ row_is (goal.at.returns-clause-number c).In-Some
