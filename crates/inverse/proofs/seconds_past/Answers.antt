-- `inverse::seconds_past` meets its contract. Assumes nothing.
use mathlib.Core.Path.{◌≡◌, ◌∙◌}
use mir.Syntax.{w64}
use mir.Val.{to_z, of_z}
use Rattle.rounding.proofs.Bits.{bits_is}
use Rattle.inverse.proofs.Distances.{next_there, row_below, next_fits, seconds_ask, seconds_are}
use borrow.Author.Rules.{rules}
use Rattle.inverse.proofs.seconds_past.Goals as goal
use Rattle.inverse.proofs.seconds_past.Goals.{Start}

reduced_is : (c : Start) → to_z w64 (of_z w64 c.args.reduced) ≡ c.args.reduced
reduced_is c = search rules

pub returns : goal.returns
returns c =
    let y0 = c.y0_of-y0 in
    let p = c.requires in
    seconds_are _ c.args.sheet.known.passes _ p.0 _ p.1 _ _ _ (bits_is y0.type_inv ∙ y0.ensures.0) (bits_is c.y0_of.type_inv ∙ c.y0_of.ensures.0) (reduced_is (goal.at.returns c).Start) _ _ c.seconds_between.ensures.0 c.seconds_between.ensures.1

pub seconds_between-requires : goal.seconds_between-requires
seconds_between-requires c =
    let y0 = c.y0_of-y0 in
    let p = c.requires in
    seconds_ask _ c.args.sheet.known.passes _ p.0 _ p.1 _ _ _ (bits_is y0.type_inv ∙ y0.ensures.0) (bits_is c.y0_of.type_inv ∙ c.y0_of.ensures.0) (reduced_is (goal.at.seconds_between-requires c).Start)

pub y0_of-y0-requires : goal.y0_of-y0-requires
y0_of-y0-requires c = let p = c.requires in row_below _ c.args.sheet.known.passes _ p.0 _ p.1

pub overflow_add-row : goal.overflow_add-row
overflow_add-row c = let p = c.requires in next_fits _ c.args.sheet.known.passes _ p.0 _ p.1

pub y0_of-requires : goal.y0_of-requires
y0_of-requires c = let p = c.requires in next_there _ c.args.sheet.known.passes _ p.0 _ p.1
