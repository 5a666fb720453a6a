-- `lines::values_of` meets its contract: each form's conversion. Assumes nothing.
use mathlib.Core.Path.{◌≡◌, ap, ◌∙◌}
use mir.Syntax.{w32}
use mir.Val.{to_z, of_z}
use Rattle.rounding.proofs.Bits.{both-same}
use Rattle.forward.specs.Forward.{forward_of}
use Rattle.inverse.specs.Inverse.{inverse_of}
use Rattle.convergence.specs.Grid.{grid_of}
use Rattle.convert.proofs.Checked.{forward-passes, inverse-passes, grid-passes}
use Rattle.lines.specs.Lines.{plane_values, geographic_values, grid_values, values_of}
use Rattle.lines.proofs.Answers.{none-known}
use borrow.Author.Rules.{rules}
use Rattle.lines.proofs.values_of.Goals as goal

pub returns-in_default : goal.returns-in_default
returns-in_default c = c.refusal.ensures ∙ none-known _ _ c.in_default.not-Some

pub returns-in-Forward : goal.returns-in-Forward
unfolding values_of
returns-in-Forward c =
    let first : to_z w32 (of_z w32 c.in-Some.l.first) ≡ c.in-Some.l.first = search rules in
    let second : to_z w32 (of_z w32 c.in-Some.l.second) ≡ c.in-Some.l.second = search rules in
    rw (c.in-Some.is, c.in-Forward.is) (c.into.ensures ∙ ap plane_values (forward-passes _ _ _ _ c.args.sheet.known.passes (c.forward.ensures ∙ both-same (forward_of _) first second)))

pub returns-in-Inverse : goal.returns-in-Inverse
unfolding values_of
returns-in-Inverse c =
    let first : to_z w32 (of_z w32 c.in-Some.l.first) ≡ c.in-Some.l.first = search rules in
    let second : to_z w32 (of_z w32 c.in-Some.l.second) ≡ c.in-Some.l.second = search rules in
    rw (c.in-Some.is, c.in-Inverse.is) (c.into-in-Inverse.ensures ∙ ap geographic_values (inverse-passes _ _ _ _ c.args.sheet.known.passes (c.inverse.ensures ∙ both-same (inverse_of _) first second)))

pub returns-in-Convergence : goal.returns-in-Convergence
unfolding values_of
returns-in-Convergence c =
    let first : to_z w32 (of_z w32 c.in-Some.l.first) ≡ c.in-Some.l.first = search rules in
    let second : to_z w32 (of_z w32 c.in-Some.l.second) ≡ c.in-Some.l.second = search rules in
    rw (c.in-Some.is, c.in-Convergence.is) (c.into-in-Convergence.ensures ∙ ap grid_values (grid-passes _ _ _ _ c.args.sheet.known.passes (c.convergence.ensures ∙ both-same (grid_of _) first second)))
