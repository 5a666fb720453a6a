-- `forward::worked` meets its contract. Assumes nothing.
use mathlib.Core.Path.{◌≡◌, ap, ◌∙◌}
use native.Mathlib.Nat.{lt_of_le_of_lt}
use lib.Dec.{lit<}
use lib.IntN.{nat_abs}
use mir.Syntax.{w64}
use mir.Val.{to_z, of_z}
use Rattle.rounding.proofs.Holds.{Holds, cast, cast_fits}
use Rattle.forward.specs.Forward.{worked_of}
use borrow.Author.Rules.{rules}
use Rattle.forward.proofs.worked.Goals as goal
use Rattle.forward.proofs.worked.Goals.{After-size, After-x_of-x, After-y_of-y, Start}

module _ (c : Start) where
  l_is : to_z w64 (of_z w64 c.args.l) ≡ c.args.l
  l_is = search rules

  easting_is : to_z w64 (of_z w64 c.args.easting) ≡ c.args.easting
  easting_is = search rules

size_is : (c : After-size) → c.size.result ≡ nat_abs c.args.l
size_is c = c.size.ensures ∙ ap nat_abs (l_is (goal.at.After-size c).Start)

-- x and y, as they were worked
x_held : (c : After-x_of-x) → Holds w64 (of_z w64 c.x_of-x.result.value) c.x_of-x.result.value 161_204_000
x_held c = record { is = search rules; size = c.x_of-x.ensures.1 }

y_held : (c : After-y_of-y) → Holds w64 (of_z w64 c.y_of-y.result.value) c.y_of-y.result.value 1_000_504_199
y_held c = record { is = search rules; size = c.y_of-y.ensures.1 }

pub returns : goal.returns
unfolding worked_of
returns c =
    rw ((cast (x_held (goal.at.returns c).After-x_of-x) tt).is, (cast (y_held (goal.at.returns c).After-y_of-y) tt).is, c.x_of-x.ensures.0, c.y_of-y.ensures.0, c.x_of-x.ensures.2, c.y_of-y.ensures.2, size_is (goal.at.returns c).After-size, l_is (goal.at.returns c).Start, easting_is (goal.at.returns c).Start)

pub x_of-x-requires : goal.x_of-x-requires
x_of-x-requires c = rw (l_is c, easting_is c) c.requires

pub size-requires : goal.size-requires
size-requires c = rw (l_is (goal.at.size-requires c).Start) (lt_of_le_of_lt c.requires.l_most (lit< tt))

pub y_of-y-requires : goal.y_of-y-requires
y_of-y-requires c = let p = c.requires in (p.v_most, p.c_most, p.y0_most, rw (size_is c) p.l_most)

pub overflow_cast-result : goal.overflow_cast-result
overflow_cast-result c = cast_fits (x_held (goal.at.overflow_cast-result c).After-x_of-x) tt

pub overflow_cast-result-2 : goal.overflow_cast-result-2
overflow_cast-result-2 c = cast_fits (y_held (goal.at.overflow_cast-result-2 c).After-y_of-y) tt
