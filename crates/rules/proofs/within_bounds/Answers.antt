-- `rules::within_bounds` meets its contract. Assumes nothing.
use mathlib.Core.Path.{◌≡◌, ◌∙◌}
use lib.IntN.{pos, neg_ℤ}
use mir.Syntax.{w32}
use mir.Val.{to_z, of_z}
use Rattle.rules.specs.Limits.{rises}
use Rattle.rules.specs.Latitude.{least_rise, most_rise, within_bounds}
use borrow.Author.Rules.{rules}
use Rattle.rules.proofs.within_bounds.Goals as goal
use Rattle.rules.proofs.within_bounds.Goals.{After-rises, After-rises-2, After-rises-3, After-rises-4}

y0_tested : (c : After-rises) → c.rises.result ≡ rises c.args.f.y0 c.args.next.y0 (pos least_rise) (pos most_rise)
y0_tested c =
    let first : to_z w32 (of_z w32 c.args.f.y0) ≡ c.args.f.y0 = search rules in
    let second : to_z w32 (of_z w32 c.args.next.y0) ≡ c.args.next.y0 = search rules in
    c.rises.ensures ∙ rw (first, second)

h_tested : (c : After-rises-2) → c.rises-2.result ≡ rises c.args.next.h c.args.f.h (pos 1) (pos 50_000)
h_tested c =
    let first : to_z w32 (of_z w32 c.args.next.h) ≡ c.args.next.h = search rules in
    let second : to_z w32 (of_z w32 c.args.f.h) ≡ c.args.f.h = search rules in
    c.rises-2.ensures ∙ rw (first, second)

v_tested : (c : After-rises-3) → c.rises-3.result ≡ rises c.args.f.v c.args.next.v (neg_ℤ (pos 1_000)) (pos 1_000)
v_tested c =
    let first : to_z w32 (of_z w32 c.args.f.v) ≡ c.args.f.v = search rules in
    let second : to_z w32 (of_z w32 c.args.next.v) ≡ c.args.next.v = search rules in
    c.rises-3.ensures ∙ rw (first, second)

a_tested : (c : After-rises-4) → c.rises-4.result ≡ rises c.args.f.a c.args.next.a (neg_ℤ (pos 10)) (pos 10)
a_tested c =
    let first : to_z w32 (of_z w32 c.args.f.a) ≡ c.args.f.a = search rules in
    let second : to_z w32 (of_z w32 c.args.next.a) ≡ c.args.next.a = search rules in
    c.rises-4.ensures ∙ rw (first, second)

pub returns : goal.returns
unfolding within_bounds
returns c = rw (y0_tested (goal.at.returns c).After-rises, h_tested (goal.at.returns c).After-rises-2, v_tested (goal.at.returns c).After-rises-3, a_tested c)
