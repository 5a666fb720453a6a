-- `rules::differences_of` meets its contract. Assumes nothing.
use borrow.Author.Rules.{rules}
use mathlib.Core.Path.{◌≡◌, ◌∙◌}
use lib.Dec.{lit≤}
use lib.IntN.{◌-ℤ◌}
use mir.Syntax.{w32}
use mir.Val.{SFits, to_z, of_z}
use mir.Facts.{to_z-of_z}
use Rattle.steps.specs.Steps.{per_second}
use Rattle.rules.specs.Latitude.{differences_of}
use Rattle.rules.proofs.WhatPasses.{changes}
use Rattle.rules.proofs.differences_of.Goals as goal
use Rattle.rules.proofs.differences_of.Goals.{After-over_minute, After-over_minute-2, After-over_minute-3}

y_worked : (c : After-over_minute) → to_z w32 (of_z w32 c.over_minute.result) ≡ per_second 1_000 (c.args.next.y0 -ℤ c.args.f.y0)
y_worked c =
    let from : to_z w32 (of_z w32 c.args.f.y0) ≡ c.args.f.y0 = search rules in
    let to : to_z w32 (of_z w32 c.args.next.y0) ≡ c.args.next.y0 = search rules in
    let fits : SFits w32 c.over_minute.result = record { sfits = c.over_minute.type_inv } in
    to_z-of_z fits ∙ c.over_minute.ensures ∙ rw (from, to)

h_worked : (c : After-over_minute-2) → to_z w32 (of_z w32 c.over_minute-2.result) ≡ per_second 100 (c.args.f.h -ℤ c.args.next.h)
h_worked c =
    let from : to_z w32 (of_z w32 c.args.next.h) ≡ c.args.next.h = search rules in
    let to : to_z w32 (of_z w32 c.args.f.h) ≡ c.args.f.h = search rules in
    let fits : SFits w32 c.over_minute-2.result = record { sfits = c.over_minute-2.type_inv } in
    to_z-of_z fits ∙ c.over_minute-2.ensures ∙ rw (from, to)

v_worked : (c : After-over_minute-3) → to_z w32 (of_z w32 c.over_minute-3.result) ≡ per_second 100 (c.args.next.v -ℤ c.args.f.v)
v_worked c =
    let from : to_z w32 (of_z w32 c.args.f.v) ≡ c.args.f.v = search rules in
    let to : to_z w32 (of_z w32 c.args.next.v) ≡ c.args.next.v = search rules in
    let fits : SFits w32 c.over_minute-3.result = record { sfits = c.over_minute-3.type_inv } in
    to_z-of_z fits ∙ c.over_minute-3.ensures ∙ rw (from, to)

pub returns : goal.returns
unfolding differences_of
returns c = rw (y_worked (goal.at.returns c).After-over_minute, h_worked (goal.at.returns c).After-over_minute-2, v_worked c)

pub over_minute-requires : goal.over_minute-requires
over_minute-requires c =
    let from : to_z w32 (of_z w32 c.args.f.y0) ≡ c.args.f.y0 = search rules in
    let to : to_z w32 (of_z w32 c.args.next.y0) ≡ c.args.next.y0 = search rules in
    (lit≤ tt, rw (from, to) (changes c.args.f c.args.next c.requires).y0)

pub over_minute-requires-2 : goal.over_minute-requires-2
over_minute-requires-2 c =
    let from : to_z w32 (of_z w32 c.args.next.h) ≡ c.args.next.h = search rules in
    let to : to_z w32 (of_z w32 c.args.f.h) ≡ c.args.f.h = search rules in
    (lit≤ tt, rw (from, to) (changes c.args.f c.args.next c.requires).h)

pub over_minute-requires-3 : goal.over_minute-requires-3
over_minute-requires-3 c =
    let from : to_z w32 (of_z w32 c.args.f.v) ≡ c.args.f.v = search rules in
    let to : to_z w32 (of_z w32 c.args.next.v) ≡ c.args.next.v = search rules in
    (lit≤ tt, rw (from, to) (changes c.args.f c.args.next c.requires).v)
