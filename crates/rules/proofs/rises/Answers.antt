-- `rules::rises` meets its contract. Assumes nothing.
use mathlib.Core.Path.{◌≡◌, ◌∙◌}
use lib.IntN.{◌-ℤ◌}
use mir.Syntax.{w32, w64}
use mir.Val.{SFits, of_z, to_z}
use mir.Facts.{to_z-of_z}
use Rattle.rounding.proofs.Holds.{Holds, held, size_i32, cast, cast_fits}
use Rattle.refusals.specs.Tests.{in_range}
use Rattle.rules.specs.Limits.{rises}
use Rattle.rules.proofs.rises.Goals as goal
use Rattle.rules.proofs.rises.Goals.{After-rise-up, Start}

module _ (c : Start) where
  least : Holds w32 (of_z w32 c.args.least) c.args.least 2_147_483_648
  least = held c.ranges.least (size_i32 c.ranges.least)

  most : Holds w32 (of_z w32 c.args.most) c.args.most 2_147_483_648
  most = held c.ranges.most (size_i32 c.ranges.most)

up_is : (c : After-rise-up) → to_z w64 (of_z w64 c.rise-up.result) ≡ c.args.next -ℤ c.args.x
up_is c =
    let b = c in
    let fits : SFits w64 c.rise-up.result = record { sfits = c.rise-up.type_inv } in
    to_z-of_z fits ∙ c.rise-up.ensures ∙ rw (to_z-of_z b.ranges.next, to_z-of_z b.ranges.x)

pub returns : goal.returns
unfolding rises in_range
returns c = rw (up_is c, (cast (least (goal.at.returns c).Start) {v = w64} tt).is, (cast (most (goal.at.returns c).Start) {v = w64} tt).is)

pub overflow_cast-result : goal.overflow_cast-result
overflow_cast-result c = cast_fits (least (goal.at.overflow_cast-result c).Start) tt

pub overflow_cast-result-2 : goal.overflow_cast-result-2
overflow_cast-result-2 c = cast_fits (most (goal.at.overflow_cast-result-2 c).Start) tt
