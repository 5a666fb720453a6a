-- `rules::figures_in_range` meets its contract. Assumes nothing.
use mathlib.Core.Path.{◌≡◌, ◌∙◌}
use lib.IntN.{pos, neg_ℤ}
use mir.Syntax.{w32}
use mir.Val.{to_z, of_z}
use Rattle.refusals.specs.Tests.{in_range}
use Rattle.rules.specs.Latitude.{figures_in_range}
use borrow.Author.Rules.{rules}
use Rattle.rules.proofs.figures_in_range.Goals as goal
use Rattle.rules.proofs.figures_in_range.Goals.{After-in_range, After-in_range-2, After-in_range-3, After-in_range-4}

y0_tested : (c : After-in_range) → c.in_range.result ≡ in_range (pos 0) c.args.f.y0 (pos 999_999_999)
y0_tested c =
    let read : to_z w32 (of_z w32 c.args.f.y0) ≡ c.args.f.y0 = search rules in
    c.in_range.ensures ∙ rw read

h_tested : (c : After-in_range-2) → c.in_range-2.result ≡ in_range (pos 30_000_000) c.args.f.h (pos 102_000_000)
h_tested c =
    let read : to_z w32 (of_z w32 c.args.f.h) ≡ c.args.f.h = search rules in
    c.in_range-2.ensures ∙ rw read

v_tested : (c : After-in_range-3) → c.in_range-3.result ≡ in_range (pos 0) c.args.f.v (pos 1_400_000)
v_tested c =
    let read : to_z w32 (of_z w32 c.args.f.v) ≡ c.args.f.v = search rules in
    c.in_range-3.ensures ∙ rw read

a_tested : (c : After-in_range-4) → c.in_range-4.result ≡ in_range (neg_ℤ (pos 2_000)) c.args.f.a (pos 2_000)
a_tested c =
    let read : to_z w32 (of_z w32 c.args.f.a) ≡ c.args.f.a = search rules in
    c.in_range-4.ensures ∙ rw read

pub returns : goal.returns
unfolding figures_in_range
returns c = rw (y0_tested (goal.at.returns c).After-in_range, h_tested (goal.at.returns c).After-in_range-2, v_tested (goal.at.returns c).After-in_range-3, a_tested c)
