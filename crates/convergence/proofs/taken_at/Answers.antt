-- `convergence::taken_at` meets its contract. Assumes nothing.
use mathlib.Core.Path.{◌≡◌, ◌∙◌}
use lib.Dec.{eqb}
use borrow.Author.Tests.{eqb-true}
use mir.Syntax.{w32, w64}
use mir.Val.{to_z, of_z}
use Rattle.rounding.proofs.Tests.{both}
use Rattle.rounding.proofs.Bits.{both-same}
use Rattle.sheet_check.proofs.Known.{northing-placed, scale-placed}
use Rattle.tables.proofs.Parts.{found_step, place-step}
use Rattle.convergence.specs.Grid.{taken_at}
use borrow.Author.Rules.{rules}
use Rattle.convergence.proofs.taken_at.Goals as goal
use Rattle.convergence.proofs.taken_at.Goals.{After-usual_step-east, Start, Then-sheet-north}

module _ (c : Start) where
  xp_is : to_z w64 (of_z w64 c.args.xp) ≡ c.args.xp
  xp_is = search rules

  y_is : to_z w32 (of_z w32 c.args.y) ≡ c.args.y
  y_is = search rules

-- the steps, where both are the usual ones
found : (c : Then-sheet-north)
    → let east = (goal.at.Then-sheet-north c).After-usual_step-east in
    let p = east.args.sheet.places in (p.northing.step ≡ east.usual_step-north.result) × (p.scale.step ≡ east.usual_step-east.result)
found c =
    let east = (goal.at.Then-sheet-north c).After-usual_step-east in
    let p = east.args.sheet.places in
    let tests = both (eqb p.northing.step east.usual_step-north.result) (eqb p.scale.step east.usual_step-east.result) c.if-sheet-north.true in
    (eqb-true _ _ tests.0, eqb-true _ _ tests.1)

pub taken_by-requires : goal.taken_by-requires
taken_by-requires c =
    let north = (found c).0 in
    let east = (found c).1 in
    let known = (goal.at.taken_by-requires c).Start.args.sheet.known in
    search (northing-placed, scale-placed, found_step, north, east, rules)

pub returns-then-sheet-north : goal.returns-then-sheet-north
returns-then-sheet-north c =
    let r = c.taken_by.ensures in
    (r.0 ∙ both-same (taken_at _) (xp_is (goal.at.returns-then-sheet-north c).Start) (y_is (goal.at.returns-then-sheet-north c).Start), r.1, r.2)

pub returns : goal.returns
returns c =
    let r = c.taken_by-2.ensures in
    (r.0 ∙ both-same (taken_at _) (xp_is (goal.at.returns c).Start) (y_is (goal.at.returns c).Start), r.1, r.2)

pub taken_by-requires-2 : goal.taken_by-requires-2
taken_by-requires-2 c = let known = c.args.sheet.known in search (northing-placed, scale-placed, place-step, rules)
