-- `convergence::taken_by` meets its contract. Assumes nothing.
use mathlib.Core.Path.{◌≡◌, ap, ◌∙◌}
use native.Mathlib.Nat.{le_trans}
use lib.Dec.{lit≤}
use lib.IntN.{nat_abs}
use mir.Syntax.{w64}
use mir.Val.{to_z, of_z}
use Rattle.rounding.proofs.Sizes.{size_non_neg}
use Rattle.rounding.proofs.Holds.{unsigned_fits}
use Rattle.extent.proofs.Reach.{northing_reach, northing-within, scale-within}
use Rattle.extent.proofs.Points.{wide, wide_fits, size_small}
use Rattle.convergence.proofs.Convergences.{taken_is, xp_most}
use borrow.Author.Rules.{rules}
use Rattle.convergence.proofs.taken_by.Goals as goal
use Rattle.convergence.proofs.taken_by.Goals.{After-size-size, Start}

xp_is : (c : Start) → to_z w64 (of_z w64 c.args.xp) ≡ c.args.xp
xp_is c = search rules

-- the size of x', as it was worked
size_is : (c : After-size-size) → c.size-size.result ≡ nat_abs c.args.xp
size_is c = c.size-size.ensures ∙ ap nat_abs (xp_is (goal.at.After-size-size c).Start)

pub returns : goal.returns
returns c =
    let m = c.m_at-m.ensures in
    let k = c.k_at.ensures in
    let y = c.position_of-at.ensures.1 ∙ ap nat_abs (wide c.ranges.y).is in
    let x = c.position_of-beside.ensures.1 ∙ size_is (goal.at.returns c).After-size-size in
    (taken_is _ _ _ _ y x m.0 m.2 k.0 k.2, m.1, k.1)

pub overflow_cast-y : goal.overflow_cast-y
overflow_cast-y c = wide_fits c.ranges.y

pub overflow_cast-y-2 : goal.overflow_cast-y-2
overflow_cast-y-2 c = unsigned_fits (wide c.ranges.y) (size_non_neg (northing_reach _ _ c.requires.1)) tt

pub position_of-at-requires : goal.position_of-at-requires
position_of-at-requires c = let p = c.requires in (lit≤ tt, lit≤ tt, lit≤ tt, p.2, rw (wide c.ranges.y).is (northing-within _ _ p.1))

pub size-size-requires : goal.size-size-requires
size-size-requires c = size_small (xp_is (goal.at.size-size-requires c).Start) (le_trans (xp_most _ _ c.args.y c.args.sheet.known.passes c.requires.0) (lit≤ tt))

pub position_of-beside-requires : goal.position_of-beside-requires
position_of-beside-requires c = let p = c.requires in (lit≤ tt, lit≤ tt, lit≤ tt, p.3, rw (size_is (goal.at.position_of-beside-requires c).After-size-size) (scale-within _ _ p.0))
