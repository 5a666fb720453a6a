-- `inverse::reduced_northing` meets its contract. Assumes nothing.
use native.Mathlib.Nat.{le_trans}
use mathlib.Core.Path.{◌≡◌, ◌∙◌}
use lib.Dec.{lit≤}
use mir.Syntax.{w32}
use mir.Val.{to_z, of_z}
use Rattle.extent.proofs.Reach.{easting_span}
use Rattle.inverse.proofs.Longitudes.{reduced_halves, reduced_half_halves}
use borrow.Author.Rules.{rules}
use Rattle.inverse.proofs.reduced_northing.Goals as goal
use Rattle.inverse.proofs.reduced_northing.Goals.{Start}

y_is : (c : Start) → to_z w32 (of_z w32 c.args.y) ≡ c.args.y
y_is c = search rules

pub returns : goal.returns
returns c =
    let read = c.for_reduction.ensures.0 in
    let y = y_is (goal.at.returns c).Start in (
      c.reduced_of.ensures.0 ∙ rw (read, y) (reduced_halves _ _ _),
      c.reduced_of.ensures.1,
      c.reduced_of.ensures.2 ∙ rw (read, y) (reduced_half_halves _ _ _),
    )

pub reduced_of-requires : goal.reduced_of-requires
reduced_of-requires c = (c.for_reduction.ensures.1, le_trans c.requires.0.most (le_trans (easting_span _ c.args.sheet.known.passes) (lit≤ tt)), c.for_reduction.ensures.2)
