-- `rules::over_minute` meets its contract. Assumes nothing.
use mathlib.Core.Path.{◌≡◌, ap, ◌∙◌}
use Prim.Native.Nat.{◌≤◌}
use lib.IntN.{nat_abs, ◌-ℤ◌}
use mir.Syntax.{w32, w64}
use mir.Val.{of_z}
use mir.Facts.{to_z-of_z}
use Rattle.steps.specs.Steps.{per_second}
use Rattle.rounding.specs.Ranges.{most_change}
use Rattle.rounding.proofs.Holds.{Holds, held_result, cast, cast_fits, size_most, renamed}
use Rattle.steps.proofs.StepBounds.{per_second_most}
use Rattle.rules.proofs.over_minute.Goals as goal
use Rattle.rules.proofs.over_minute.Goals.{After-per_second, After-rise}

-- the rise, small enough for a column
rise_is : (c : After-rise) → Holds w64 (of_z w64 c.rise.result) (c.args.next -ℤ c.args.x) most_change
rise_is c =
    let b = c in
    let up : c.rise.result ≡ b.args.next -ℤ b.args.x = c.rise.ensures ∙ rw (to_z-of_z b.ranges.next, to_z-of_z b.ranges.x) in
    renamed (held_result w64 c.rise.result c.rise.type_inv (rw up b.requires.1)) up

-- the difference, small enough for a word
worked : (c : After-per_second) → Holds w64 (of_z w64 c.per_second.result) (per_second c.args.scale (c.args.next -ℤ c.args.x)) 16_666_667
worked c =
    let b = c in
    let answer : c.per_second.result ≡ per_second b.args.scale (b.args.next -ℤ b.args.x)
    = c.per_second.ensures ∙ ap (per_second b.args.scale) (rise_is (goal.at.After-per_second c).After-rise).is in
    let small : nat_abs (per_second b.args.scale (b.args.next -ℤ b.args.x)) ≤ 16_666_667 = per_second_most b.args.scale (b.args.next -ℤ b.args.x) b.requires.0 b.requires.1 in
    renamed (held_result w64 c.per_second.result c.per_second.type_inv (rw answer small)) answer

pub returns : goal.returns
returns c = (cast (worked c) {v = w32} tt).is

pub per_second-requires : goal.per_second-requires
per_second-requires c = (c.requires.0, size_most (rise_is c) tt)

pub overflow_cast-result : goal.overflow_cast-result
overflow_cast-result c = cast_fits (worked c) tt
