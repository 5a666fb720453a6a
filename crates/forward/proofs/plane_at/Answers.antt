-- `forward::plane_at` meets its contract. Assumes nothing.
use mathlib.Core.Path.{◌≡◌, ap, ◌∙◌}
use lib.Dec.{lit≤}
use lib.IntN.{nat_abs}
use mir.Syntax.{w32, w64}
use mir.Val.{to_z, of_z}
use Rattle.rounding.proofs.Bits.{bits_is, bits_below}
use Rattle.entries.specs.Layout.{longitude}
use Rattle.entries.specs.Entries.{Within}
use Rattle.reading.specs.Tables.{offset_of}
use Rattle.tables.specs.Figures.{false_easting_of}
use Rattle.tables.proofs.Answers.{size_is, size_fits}
use Rattle.tables.proofs.Ranges.{minute_step}
use Rattle.tables.proofs.Origins.{easting_held}
use Rattle.extent.specs.Extent.{from_first, l_of}
use Rattle.extent.proofs.Reach.{latitude_reach, latitude-small, latitude-within, longitude-within}
use Rattle.forward.proofs.Eastings.{plane-worked, workable-as_read}
use borrow.Author.Rules.{rules}
use Rattle.forward.proofs.plane_at.Goals as goal
use Rattle.forward.proofs.plane_at.Goals.{After-from_first-t, After-l_of-l, After-size, After-taken_at-taken, Start}

-- the latitude's distance from row 0, and L, as they were worked
module _ (c : After-from_first-t) where
  distance_is : c.from_first-t.result ≡ from_first c.args.sheet.bytes.now c.args.latitude
  distance_is =
      let north : to_z w32 (of_z w32 c.args.latitude) ≡ c.args.latitude = search rules in
      c.from_first-t.ensures ∙ ap (from_first _) north

  t_is : nat_abs (to_z w64 (of_z w64 c.from_first-t.result)) ≡ nat_abs (from_first c.args.sheet.bytes.now c.args.latitude)
  t_is = size_is c.from_first-t.type_inv distance_is (latitude_reach _ _ c.requires.0)

l_is : (c : After-l_of-l) → to_z w64 (of_z w64 c.l_of-l.result) ≡ l_of c.args.sheet.bytes.now c.args.longitude
l_is c =
    let west : to_z w32 (of_z w32 c.args.longitude) ≡ c.args.longitude = search rules in
    bits_is c.l_of-l.type_inv ∙ c.l_of-l.ensures.0 ∙ ap (l_of _) west

-- the size of L is within its table
size_within : (c : After-size) → Within c.args.sheet.bytes.now longitude c.size.result
size_within c = rw (c.size.ensures, l_is (goal.at.After-size c).After-l_of-l) (longitude-within _ _ c.requires.1)

-- where the figures were taken, and the false easting
module _ (c : After-taken_at-taken) where
  abbrev ls : After-l_of-l
  ls = (goal.at.After-taken_at-taken c).After-l_of-l

  abbrev start : Start
  start = (goal.at.After-taken_at-taken c).Start

  north_is : offset_of c.position_of-north.result ≡ nat_abs (from_first start.args.sheet.bytes.now start.args.latitude)
  north_is = c.position_of-north.ensures.1 ∙ t_is (goal.at.After-taken_at-taken c).After-from_first-t

  easting_is : to_z w64 (of_z w64 start.args.sheet.origin.false_easting) ≡ false_easting_of start.args.sheet.bytes.now
  easting_is = (easting_held _ start.args.sheet.known.passes _ start.args.sheet.measured).is

pub worked-requires : goal.worked-requires
worked-requires c =
    let first = start (goal.at.worked-requires c).After-taken_at-taken in
    let z = first.args.sheet.known.passes in
    workable-as_read _ z _ (latitude-within _ z _ first.requires.0) _ (longitude-within _ _ first.requires.1) c.taken_at-taken.ensures (north_is (goal.at.worked-requires c).After-taken_at-taken) c.size.ensures (easting_is (goal.at.worked-requires c).After-taken_at-taken) (l_is (ls (goal.at.worked-requires c).After-taken_at-taken))

pub returns : goal.returns
returns c =
    c.worked.ensures ∙ plane-worked _ _ _ c.taken_at-taken.ensures (north_is (goal.at.returns c).After-taken_at-taken) c.size.ensures (easting_is (goal.at.returns c).After-taken_at-taken) (l_is (ls (goal.at.returns c).After-taken_at-taken))

pub overflow_cast-t : goal.overflow_cast-t
overflow_cast-t c = size_fits c.from_first-t.type_inv (distance_is c) (latitude-small _ c.args.sheet.known.passes _ c.requires.0) tt

pub position_of-north-requires : goal.position_of-north-requires
position_of-north-requires c = let z = c.args.sheet.known.passes in (lit≤ tt, lit≤ tt, lit≤ tt, minute_step _ z, rw (t_is (goal.at.position_of-north-requires c).After-from_first-t) (latitude-within _ z _ c.requires.0))

pub size-requires : goal.size-requires
size-requires c = bits_below c.l_of-l.result c.l_of-l.type_inv c.l_of-l.ensures.1 tt

pub taken_at-taken-requires : goal.taken_at-taken-requires
taken_at-taken-requires c = (c.position_of-north.ensures.0, size_within c)
