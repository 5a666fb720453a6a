-- `forward::forward` meets its contract. Assumes nothing.
use mathlib.Core.Path.{◌≡◌, ap, ◌∙◌}
use mir.Syntax.{w32}
use mir.Val.{to_z, of_z}
use Rattle.refusals.proofs.Ladders.{stop, go, kept}
use Rattle.extent.specs.Extent.{latitude_known, longitude_known}
use Rattle.forward.specs.Forward.{plane_at, forward_of}
use Rattle.rounding.proofs.Bits.{both-same}
use borrow.Author.Rules.{rules}
use Rattle.forward.proofs.forward.Goals as goal
use Rattle.forward.proofs.forward.Goals.{After-latitude_known, After-longitude_known}

-- the tests, of the point itself
latitude_is : (c : After-latitude_known) → c.latitude_known.result ≡ latitude_known c.args.sheet.bytes.now c.args.latitude
latitude_is c =
    let same : to_z w32 (of_z w32 c.args.latitude) ≡ c.args.latitude = search rules in
    c.latitude_known.ensures ∙ ap (latitude_known _) same

longitude_is : (c : After-longitude_known) → c.longitude_known.result ≡ longitude_known c.args.sheet.bytes.now c.args.longitude
longitude_is c =
    let same : to_z w32 (of_z w32 c.args.longitude) ≡ c.args.longitude = search rules in
    c.longitude_known.ensures ∙ ap (longitude_known _) same

pub returns-then-not-latitude_known : goal.returns-then-not-latitude_known
unfolding forward_of
returns-then-not-latitude_known c = stop _ _ _ _ (latitude_is (goal.at.returns-then-not-latitude_known c).After-latitude_known) c.if-not-latitude_known.true

pub returns-then-not-longitude_known : goal.returns-then-not-longitude_known
unfolding forward_of
returns-then-not-longitude_known c = go _ _ _ _ _ (latitude_is (goal.at.returns-then-not-longitude_known c).After-latitude_known) c.if-not-latitude_known.false (stop _ _ _ _ (longitude_is (goal.at.returns-then-not-longitude_known c).After-longitude_known) c.if-not-longitude_known.true)

pub returns : goal.returns
unfolding forward_of
returns c =
    let north : to_z w32 (of_z w32 c.args.latitude) ≡ c.args.latitude = search rules in
    let west : to_z w32 (of_z w32 c.args.longitude) ≡ c.args.longitude = search rules in
    let point = c.plane_at.ensures ∙ both-same (plane_at _) north west in
    go _ _ _ _ _ (latitude_is (goal.at.returns c).After-latitude_known) c.if-not-latitude_known.false
    (go _ _ _ _ _ (longitude_is (goal.at.returns c).After-longitude_known) c.if-not-longitude_known.false point)

pub plane_at-requires : goal.plane_at-requires
plane_at-requires c =
    (kept _ _ c.latitude_known.ensures c.if-not-latitude_known.false, kept _ _ c.longitude_known.ensures c.if-not-longitude_known.false)
