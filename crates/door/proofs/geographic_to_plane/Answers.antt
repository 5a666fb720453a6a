-- `door::geographic_to_plane` meets its contract: 15 before the sheet, and after it what the conversion answers. Assumes nothing.
use mathlib.Core.Path.{◌≡◌, sym}
use mir.Syntax.{w32}
use mir.Val.{to_z, of_z}
use borrow.Author.Rules.{rules}
use Rattle.convert.specs.Conversions.{geographic_to_plane}
use Rattle.door.specs.Door.{plane_answer}
use Rattle.door.proofs.Ways.{before, after}
use Rattle.door.proofs.geographic_to_plane.Goals as goal

pub returns-in_default : goal.returns-in_default
returns-in_default c = before _ _ (sym c.in_default.ensures)

pub returns : goal.returns
returns c =
    let a : to_z w32 (of_z w32 c.in-Some.latitude) ≡ c.in-Some.latitude = search rules in
    let b : to_z w32 (of_z w32 c.in-Some.longitude) ≡ c.in-Some.longitude = search rules in
    after (geographic_to_plane _) plane_answer _ _ (sym c.in-Some.ensures) a b c.geographic_to_plane.ensures c.plane_counts.ensures
