-- `convergence::convergence` meets its contract. Assumes nothing.
use mathlib.Core.Path.{◌≡◌, ap, ◌∙◌}
use native.Mathlib.Nat.{le_trans}
use lib.Dec.{lit≤}
use mathlib.Core.Bool.{true}
use mir.Syntax.{w32, w64}
use mir.Val.{to_z, of_z}
use Rattle.refusals.proofs.Ladders.{stop, go, kept}
use Rattle.extent.specs.Extent.{x_prime, scale_known, northing_known}
use Rattle.convergence.specs.Grid.{grid_of}
use Rattle.convergence.proofs.Convergences.{taken-worked, xp_most}
use Rattle.rounding.proofs.Bits.{bits_is}
use borrow.Author.Rules.{rules}
use Rattle.convergence.proofs.convergence.Goals as goal
use Rattle.convergence.proofs.convergence.Goals.{After-northing_known, After-scale_known, After-x_prime-xp, Else-not-northing_known, Start}

-- x', and the tests, of the point itself
x_is : (c : Start) → to_z w32 (of_z w32 c.args.x) ≡ c.args.x
x_is c = search rules

y_is : (c : Start) → to_z w32 (of_z w32 c.args.y) ≡ c.args.y
y_is c = search rules

xp_is : (c : After-x_prime-xp) → to_z w64 (of_z w64 c.x_prime-xp.result) ≡ x_prime c.args.sheet.bytes.now c.args.x
xp_is c = bits_is c.x_prime-xp.type_inv ∙ c.x_prime-xp.ensures.0 ∙ ap (x_prime _) (x_is (goal.at.After-x_prime-xp c).Start)

scale-known_is : (c : After-scale_known) → let args = c.args in c.scale_known.result ≡ scale_known args.sheet.bytes.now (x_prime args.sheet.bytes.now args.x)
scale-known_is c = c.scale_known.ensures ∙ ap (scale_known _) (xp_is (goal.at.After-scale_known c).After-x_prime-xp)

northing_is : (c : After-northing_known) → let args = c.args in c.northing_known.result ≡ northing_known args.sheet.bytes.now args.y
northing_is c = c.northing_known.ensures ∙ ap (northing_known _) (y_is (goal.at.After-northing_known c).Start)

pub returns-then-not-scale_known : goal.returns-then-not-scale_known
unfolding grid_of
returns-then-not-scale_known c = stop _ _ _ _ (scale-known_is (goal.at.returns-then-not-scale_known c).After-scale_known) c.if-not-scale_known.true

pub returns-then-not-northing_known : goal.returns-then-not-northing_known
unfolding grid_of
returns-then-not-northing_known c = go _ _ _ _ _ (scale-known_is (goal.at.returns-then-not-northing_known c).After-scale_known) c.if-not-scale_known.false (stop _ _ _ _ (northing_is (goal.at.returns-then-not-northing_known c).After-northing_known) c.if-not-northing_known.true)

-- past both tests
module _ (c : Else-not-northing_known) where
  abbrev start : Start
  start = (goal.at.Else-not-northing_known c).Start

  scale_there : scale_known start.args.sheet.bytes.now (x_prime start.args.sheet.bytes.now start.args.x) ≡ true
  scale_there = kept _ _ (scale-known_is (goal.at.Else-not-northing_known c).After-scale_known) c.if-not-scale_known.false

  northing_there : northing_known start.args.sheet.bytes.now start.args.y ≡ true
  northing_there = kept _ _ (northing_is (goal.at.Else-not-northing_known c).After-northing_known) c.if-not-northing_known.false

pub returns : goal.returns
unfolding grid_of
returns c =
    let xp = xp_is (goal.at.returns c).After-x_prime-xp in
    go _ _ _ _ _ (scale-known_is (goal.at.returns c).After-scale_known) c.if-not-scale_known.false
    (go _ _ _ _ _ (northing_is (goal.at.returns c).After-northing_known) c.if-not-northing_known.false
    (c.worked.ensures ∙ rw (c.taken_at.ensures.0, xp, y_is (start (goal.at.returns c).Else-not-northing_known)) (taken-worked _ _ _)))

pub taken_at-requires : goal.taken_at-requires
taken_at-requires c = (rw (xp_is (goal.at.taken_at-requires c).After-x_prime-xp) (scale_there c), rw (y_is (start c)) (northing_there c))

pub worked-requires : goal.worked-requires
worked-requires c =
    let z = (start (goal.at.worked-requires c).Else-not-northing_known).args.sheet.known.passes in
    (c.taken_at.ensures.1, c.taken_at.ensures.2, rw (xp_is (goal.at.worked-requires c).After-x_prime-xp) (le_trans (xp_most _ _ (start (goal.at.worked-requires c).Else-not-northing_known).args.y z (scale_there (goal.at.worked-requires c).Else-not-northing_known)) (lit≤ tt)))
