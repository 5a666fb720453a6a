-- `reached::row_below` meets its contract. Assumes nothing.
use mathlib.Core.Path.{◌≡◌, ◌∙◌}
use mir.Syntax.{w64}
use mir.Val.{to_z, of_z}
use Rattle.rounding.proofs.Bits.{bits_is}
use Rattle.tables.proofs.Ranges.{latitude-some}
use Rattle.inverse.specs.Inverse.{row_of}
use Rattle.reached.proofs.TwoMinutes.{none_below_it, some_below_it}
use borrow.Author.Rules.{rules}
use Rattle.reached.proofs.row_below.Goals as goal
use Rattle.reached.proofs.row_below.Goals.{Start}

z_is : (c : Start) → to_z w64 (of_z w64 c.args.z) ≡ c.args.z
z_is c = search rules

pub y0_of-requires : goal.y0_of-requires
y0_of-requires c = latitude-some _ c.args.sheet.known.passes

pub returns-then-z-y0_of : goal.returns-then-z-y0_of
returns-then-z-y0_of c =
    let read = c.y0_of in
    (none_below_it _ c.args.sheet.known.passes _ _ _ (z_is (goal.at.returns-then-z-y0_of c).Start) (bits_is read.type_inv ∙ read.ensures.0) c.if-z-y0_of.true, latitude-some _ c.args.sheet.known.passes)

pub row_of_northing-requires : goal.row_of_northing-requires
row_of_northing-requires c =
    let read = c.y0_of in
    (some_below_it _ c.args.sheet.known.passes _ _ _ (z_is (goal.at.row_of_northing-requires c).Start) (bits_is read.type_inv ∙ read.ensures.0) c.if-z-y0_of.false, rw (z_is (goal.at.row_of_northing-requires c).Start) c.requires)

pub returns : goal.returns
unfolding row_of
returns c = (c.row_of_northing.ensures.0 ∙ rw (z_is (goal.at.returns c).Start), c.row_of_northing.ensures.1)
