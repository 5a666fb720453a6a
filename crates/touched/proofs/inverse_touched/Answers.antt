-- `touched::inverse_touched` meets its contract. Assumes nothing.
use mathlib.Core.Path.{◌≡◌, ◌∙◌}
use mir.Syntax.{w32}
use mir.Val.{to_z, of_z}
use Rattle.rounding.proofs.Bits.{both-same}
use Rattle.touched.specs.Touched.{inverse_touched}
use Rattle.touched.proofs.Answered.{plane-none, plane-passes}
use borrow.Author.Rules.{rules}
use Rattle.touched.proofs.inverse_touched.Goals as goal

pub returns-in_default : goal.returns-in_default
returns-in_default c =
    let minute : to_z w32 (of_z w32 c.args.minute) ≡ c.args.minute = search rules in
    plane-none _ _ _ _ c.args.sheet.known.passes (rw minute at c.in_default.ensures)

pub returns : goal.returns
returns c =
    let minute : to_z w32 (of_z w32 c.args.minute) ≡ c.args.minute = search rules in
    let x : to_z w32 (of_z w32 c.args.x) ≡ c.args.x = search rules in
    let y : to_z w32 (of_z w32 c.args.y) ≡ c.args.y = search rules in
    let row = rw minute at c.in-Some.ensures in
    plane-passes _ _ _ _ c.args.sheet.known.passes row.0 _ _ row.1 (c.may_move_earth.ensures ∙ both-same (inverse_touched _ _) x y)
