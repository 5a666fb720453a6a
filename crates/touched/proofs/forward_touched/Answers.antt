-- `touched::forward_touched` meets its contract. Assumes nothing.
use mathlib.Core.Path.{◌≡◌, ◌∙◌}
use mir.Syntax.{w32}
use mir.Val.{to_z, of_z}
use Rattle.touched.proofs.Answered.{found_is, geographic-none, geographic-passes}
use borrow.Author.Rules.{rules}
use Rattle.touched.proofs.forward_touched.Goals as goal

pub returns-then-is_none : goal.returns-then-is_none
returns-then-is_none c =
    let minute : to_z w32 (of_z w32 c.args.minute) ≡ c.args.minute = search rules in
    geographic-none _ _ _ _ c.args.sheet.known.passes (found_is _ _ _ (rw minute at c.row_named.ensures) ∙ c.if-is_none.ensures)

pub returns : goal.returns
returns c =
    let minute : to_z w32 (of_z w32 c.args.minute) ≡ c.args.minute = search rules in
    let north : to_z w32 (of_z w32 c.args.latitude) ≡ c.args.latitude = search rules in
    let west : to_z w32 (of_z w32 c.args.longitude) ≡ c.args.longitude = search rules in
    geographic-passes _ _ _ _ c.args.sheet.known.passes (found_is _ _ _ (rw minute at c.row_named.ensures) ∙ c.if-is_none.ensures) _ (c.may_move_plane.ensures ∙ rw (minute, north, west))
