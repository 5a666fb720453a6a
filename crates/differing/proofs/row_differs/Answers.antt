-- `differing::row_differs` meets its contract. Assumes nothing.
use mathlib.Core.Path.{◌≡◌, ap, ◌∙◌}
use mathlib.Core.Bool.{not}
use mir.Syntax.{w32}
use mir.Val.{to_z, of_z}
use Rattle.rules.proofs.WhatPasses.{eq_figures}
use Rattle.differing.specs.Differing.{same_figures}
use Rattle.differing.proofs.OneRow.{not_there, as-figures}
use borrow.Author.Rules.{rules}
use Rattle.differing.proofs.row_differs.Goals as goal

pub returns-in-Some : goal.returns-in-Some
unfolding same_figures
returns-in-Some c =
    let minute : to_z w32 (of_z w32 c.word-minute.result) ≡ c.word-minute.result = search rules in
    let row = rw minute at c.in-Some.ensures in
    as-figures _ _ _ _ _ c.word-minute.ensures row.0 _ _ _ _ row.1 c.figures_at.ensures c.figures_at-in-Some.ensures (c.ne.ensures ∙ ap not (eq_figures _ _))

pub returns-in-None : goal.returns-in-None
returns-in-None c =
    let minute : to_z w32 (of_z w32 c.word-minute.result) ≡ c.word-minute.result = search rules in
    not_there _ _ _ _ _ c.word-minute.ensures (rw minute at c.in-None.ensures)
