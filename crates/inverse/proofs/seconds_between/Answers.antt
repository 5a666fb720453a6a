-- `inverse::seconds_between` meets its contract. Assumes nothing.
use mathlib.Core.Path.{◌≡◌, ◌∙◌}
use native.Mathlib.Nat.{le_trans}
use lib.Dec.{lit≤}
use mir.Syntax.{w64}
use mir.Val.{to_z, of_z}
use Rattle.inverse.specs.Inverse.{seconds_by, seconds_by_half}
use borrow.Author.Rules.{rules}
use Rattle.inverse.proofs.seconds_between.Goals as goal
use Rattle.inverse.proofs.seconds_between.Goals.{Start}

-- the three numbers, from their bits
module _ (c : Start) where
  y0_is : to_z w64 (of_z w64 c.args.y0) ≡ c.args.y0
  y0_is = search rules

  next_is : to_z w64 (of_z w64 c.args.next) ≡ c.args.next
  next_is = search rules

  reduced_is : to_z w64 (of_z w64 c.args.reduced) ≡ c.args.reduced
  reduced_is = search rules

pub seconds-requires : goal.seconds-requires
seconds-requires c =
    let p = c.requires in
    rw (c.above.ensures, c.above-2.ensures, y0_is (goal.at.seconds-requires c).Start, next_is (goal.at.seconds-requires c).Start, reduced_is (goal.at.seconds-requires c).Start) (lit≤ tt, le_trans p.6 p.7, p.5, p.7)

pub returns : goal.returns
unfolding seconds_by seconds_by_half
returns c =
    let past = c.above.ensures in
    let gap = c.above-2.ensures in
    (c.seconds.ensures.0 ∙ rw (past, gap, y0_is (goal.at.returns c).Start, next_is (goal.at.returns c).Start, reduced_is (goal.at.returns c).Start), c.seconds.ensures.1 ∙ rw (past, gap, y0_is (goal.at.returns c).Start, next_is (goal.at.returns c).Start, reduced_is (goal.at.returns c).Start))

pub above-requires : goal.above-requires
above-requires c = rw (y0_is c, reduced_is c) (c.requires.0, c.requires.2, c.requires.3)

pub above-requires-2 : goal.above-requires-2
above-requires-2 c = rw (y0_is (goal.at.above-requires-2 c).Start, next_is (goal.at.above-requires-2 c).Start) (c.requires.0, c.requires.1, c.requires.4)
