-- `inverse::for_reduction` meets its contract. Assumes nothing.
use mathlib.Core.Path.{◌≡◌, refl, ap}
use lib.Dec.{eqb}
use lib.IntN.{nat_abs}
use borrow.Author.Tests.{eqb-true}
use Rattle.rounding.proofs.Sizes.{size_non_neg}
use Rattle.rounding.proofs.Tests.{both}
use Rattle.rounding.proofs.Holds.{unsigned_fits}
use Rattle.sheet_check.proofs.Known.{northing-placed, easting-placed}
use Rattle.tables.proofs.Parts.{found_step, place-step}
use Rattle.extent.proofs.Reach.{northing_reach, northing-within}
use Rattle.extent.proofs.Points.{wide, wide_fits}
use Rattle.inverse.proofs.Longitudes.{reduction-taken}
use Rattle.inverse.proofs.for_reduction.Goals as goal
use Rattle.inverse.proofs.for_reduction.Goals.{After-usual_step-east, Then-sheet-north}

-- the steps, where both are the usual ones
found : (c : Then-sheet-north)
    → let east = (goal.at.Then-sheet-north c).After-usual_step-east in
    let p = east.args.sheet.places in (p.northing.step ≡ east.usual_step-north.result) × (p.easting.step ≡ east.usual_step-east.result)
found c =
    let east = (goal.at.Then-sheet-north c).After-usual_step-east in
    let p = east.args.sheet.places in
    let tests = both (eqb p.northing.step east.usual_step-north.result) (eqb p.easting.step east.usual_step-east.result) c.if-sheet-north.true in
    (eqb-true _ _ tests.0, eqb-true _ _ tests.1)

pub returns-then-sheet-north : goal.returns-then-sheet-north
returns-then-sheet-north c =
    let p = c.p_by.ensures in
    let d = c.d_by.ensures in
    (reduction-taken _ _ _ _ (ap nat_abs (wide c.ranges.y).is) refl p.0 p.2 d.0 d.2, p.1, d.1)

pub returns : goal.returns
returns c =
    let p = c.p_by-2.ensures in
    let d = c.d_by-2.ensures in
    (reduction-taken _ _ _ _ (ap nat_abs (wide c.ranges.y).is) refl p.0 p.2 d.0 d.2, p.1, d.1)

pub overflow_cast-up : goal.overflow_cast-up
overflow_cast-up c = wide_fits c.ranges.y

pub overflow_cast-up-2 : goal.overflow_cast-up-2
overflow_cast-up-2 c = unsigned_fits (wide c.ranges.y) (size_non_neg (northing_reach _ _ c.requires.1)) tt

pub p_by-requires : goal.p_by-requires
p_by-requires c = (found_step _ _ _ (northing-placed _ _ c.args.sheet.known) _ (found c).0, rw (wide c.ranges.y).is (northing-within _ _ c.requires.1))

pub d_by-requires : goal.d_by-requires
d_by-requires c = (found_step _ _ _ (easting-placed _ _ c.args.sheet.known) _ (found (goal.at.d_by-requires c).Then-sheet-north).1, c.requires.0)

pub p_by-requires-2 : goal.p_by-requires-2
p_by-requires-2 c = (place-step _ _ _ (northing-placed _ _ c.args.sheet.known), rw (wide c.ranges.y).is (northing-within _ _ c.requires.1))

pub d_by-requires-2 : goal.d_by-requires-2
d_by-requires-2 c = (place-step _ _ _ (easting-placed _ _ c.args.sheet.known), c.requires.0)
