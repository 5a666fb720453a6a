-- `touched::may_move_plane` meets its contract. Assumes nothing.
use mathlib.Core.Path.{◌≡◌, ap, ◌∙◌}
use mir.Syntax.{w32}
use mir.Val.{to_z, of_z}
use Rattle.refusals.proofs.Ladders.{stop, go}
use Rattle.extent.specs.Extent.{latitude_known, longitude_known}
use Rattle.rounding.proofs.Bits.{both-same}
use Rattle.touched.specs.Touched.{near_row, forward_touched}
use borrow.Author.Rules.{rules}
use Rattle.touched.proofs.may_move_plane.Goals as goal
use Rattle.touched.proofs.may_move_plane.Goals.{After-latitude_known, After-longitude_known, Start}

-- the point's latitude, and the tests, of the point itself
north_is : (c : Start) → to_z w32 (of_z w32 c.args.latitude) ≡ c.args.latitude
north_is c = search rules

latitude_is : (c : After-latitude_known) → let args = c.args in c.latitude_known.result ≡ latitude_known args.sheet.bytes.now args.latitude
latitude_is c = c.latitude_known.ensures ∙ ap (latitude_known _) (north_is (goal.at.After-latitude_known c).Start)

longitude_is : (c : After-longitude_known) → let args = c.args in c.longitude_known.result ≡ longitude_known args.sheet.bytes.now args.longitude
longitude_is c =
    let args = c.args in
    let same : to_z w32 (of_z w32 args.longitude) ≡ args.longitude = search rules in
    c.longitude_known.ensures ∙ ap (longitude_known _) same

pub returns-then-not-latitude_known : goal.returns-then-not-latitude_known
unfolding forward_touched
returns-then-not-latitude_known c = stop _ _ _ _ (latitude_is (goal.at.returns-then-not-latitude_known c).After-latitude_known) c.if-not-latitude_known.true

pub returns-then-not-longitude_known : goal.returns-then-not-longitude_known
unfolding forward_touched
returns-then-not-longitude_known c = go _ _ _ _ _ (latitude_is (goal.at.returns-then-not-longitude_known c).After-latitude_known) c.if-not-latitude_known.false (stop _ _ _ _ (longitude_is (goal.at.returns-then-not-longitude_known c).After-longitude_known) c.if-not-longitude_known.true)

pub returns : goal.returns
unfolding forward_touched
returns c =
    let minute : to_z w32 (of_z w32 c.args.minute) ≡ c.args.minute = search rules in
    go _ _ _ _ _ (latitude_is (goal.at.returns c).After-latitude_known) c.if-not-latitude_known.false
    (go _ _ _ _ _ (longitude_is (goal.at.returns c).After-longitude_known) c.if-not-longitude_known.false (c.near_row.ensures ∙ both-same near_row minute (north_is (goal.at.returns c).Start)))
