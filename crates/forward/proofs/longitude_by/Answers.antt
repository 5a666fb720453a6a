-- `forward::longitude_by` meets its contract. Assumes nothing.
use lib.Dec.{lit≤}
use Rattle.forward.proofs.Eastings.{longitude_is}
use Rattle.forward.proofs.longitude_by.Goals as goal

pub returns : goal.returns
returns c =
    let k = c.c_at.ensures in
    let b = c.b_at.ensures in
    longitude_is _ _ _ c.position_of-at.ensures.1 b.0 b.2 k.0 k.2

pub position_of-at-requires : goal.position_of-at-requires
position_of-at-requires c = (lit≤ tt, lit≤ tt, lit≤ tt, c.requires.0, c.requires.1)
