-- `survey_samples::show_point` meets its contract. Assumes nothing.
use mathlib.Core.Path.{◌≡◌, ap, ◌∙◌}
use lib.Dec.{lit≤}
use mir.Syntax.{w32, w64}
use mir.Val.{to_z, of_z}
use Rattle.tables.proofs.Ranges.{minute_step}
use Rattle.tables.proofs.Answers.{size_is, size_fits}
use Rattle.extent.specs.Extent.{from_first, l_of}
use Rattle.extent.proofs.Reach.{latitude_reach, latitude-small, latitude-within, longitude-within}
use Rattle.rounding.proofs.Bits.{bits_is}
use borrow.Author.Rules.{rules}
use Rattle.survey_samples.proofs.show_point.Goals as goal

pub overflow_cast-t : goal.overflow_cast-t
overflow_cast-t c =
    let north : to_z w32 (of_z w32 c.args.latitude) ≡ c.args.latitude = search rules in
    let distance : c.from_first-t.result ≡ from_first c.args.sheet.bytes.now c.args.latitude = c.from_first-t.ensures ∙ ap (from_first _) north in
    size_fits c.from_first-t.type_inv distance (latitude-small _ c.args.sheet.known.passes _ c.requires.0) tt

pub position_of-north-requires : goal.position_of-north-requires
position_of-north-requires c =
    let north : to_z w32 (of_z w32 c.args.latitude) ≡ c.args.latitude = search rules in
    let distance : c.from_first-t.result ≡ from_first c.args.sheet.bytes.now c.args.latitude = c.from_first-t.ensures ∙ ap (from_first _) north in
    let t = size_is c.from_first-t.type_inv distance (latitude_reach _ _ c.requires.0) in
    (lit≤ tt, lit≤ tt, lit≤ tt, minute_step _ c.args.sheet.known.passes, rw t (latitude-within _ c.args.sheet.known.passes _ c.requires.0))

pub show_longitude-requires : goal.show_longitude-requires
show_longitude-requires c =
    let west : to_z w32 (of_z w32 c.args.longitude) ≡ c.args.longitude = search rules in
    let l : to_z w64 (of_z w64 c.l_of-l.result) ≡ l_of c.args.sheet.bytes.now c.args.longitude = bits_is c.l_of-l.type_inv ∙ c.l_of-l.ensures.0 ∙ ap (l_of _) west in
    (rw (c.size.ensures, l) (longitude-within _ _ c.requires.1))
