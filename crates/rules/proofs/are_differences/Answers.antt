-- `rules::are_differences` meets its contract. Assumes nothing.
use mathlib.Core.Path.{◌≡◌, ◌∙◌}
use lib.IntN.{◌-ℤ◌}
use mir.Syntax.{w32}
use mir.Val.{to_z, of_z}
use Rattle.steps.specs.Steps.{per_second}
use Rattle.refusals.specs.Tests.{same_as}
use Rattle.rules.specs.Latitude.{differences_of, same_differences}
use borrow.Author.Rules.{rules}
use Rattle.rules.proofs.are_differences.Goals as goal
use Rattle.rules.proofs.are_differences.Goals.{After-is_over_minute, After-is_over_minute-2, After-is_over_minute-3}

y_tested : (c : After-is_over_minute) → c.is_over_minute.result ≡ same_as c.args.d.y (per_second 1_000 (c.args.next.y0 -ℤ c.args.f.y0))
y_tested c =
    let a = c.args in
    let d : to_z w32 (of_z w32 a.d.y) ≡ a.d.y = search rules in
    let from : to_z w32 (of_z w32 a.f.y0) ≡ a.f.y0 = search rules in
    let to : to_z w32 (of_z w32 a.next.y0) ≡ a.next.y0 = search rules in
    c.is_over_minute.ensures ∙ rw (d, from, to)

h_tested : (c : After-is_over_minute-2) → c.is_over_minute-2.result ≡ same_as c.args.d.h (per_second 100 (c.args.f.h -ℤ c.args.next.h))
h_tested c =
    let a = c.args in
    let d : to_z w32 (of_z w32 a.d.h) ≡ a.d.h = search rules in
    let from : to_z w32 (of_z w32 a.next.h) ≡ a.next.h = search rules in
    let to : to_z w32 (of_z w32 a.f.h) ≡ a.f.h = search rules in
    c.is_over_minute-2.ensures ∙ rw (d, from, to)

v_tested : (c : After-is_over_minute-3) → c.is_over_minute-3.result ≡ same_as c.args.d.v (per_second 100 (c.args.next.v -ℤ c.args.f.v))
v_tested c =
    let a = c.args in
    let d : to_z w32 (of_z w32 a.d.v) ≡ a.d.v = search rules in
    let from : to_z w32 (of_z w32 a.f.v) ≡ a.f.v = search rules in
    let to : to_z w32 (of_z w32 a.next.v) ≡ a.next.v = search rules in
    c.is_over_minute-3.ensures ∙ rw (d, from, to)

pub returns : goal.returns
unfolding same_differences differences_of
returns c = rw (y_tested (goal.at.returns c).After-is_over_minute, h_tested (goal.at.returns c).After-is_over_minute-2, v_tested c)
