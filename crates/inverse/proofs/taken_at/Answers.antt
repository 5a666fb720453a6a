-- `inverse::taken_at` meets its contract. Assumes nothing.
use Rattle.inverse.proofs.Longitudes.{taken_is}
use Rattle.inverse.proofs.taken_at.Goals as goal

pub returns : goal.returns
returns c =
    let h = c.h_at.ensures in
    let a = c.a_at.ensures in
    (taken_is _ _ _ h.0 h.3 a.0 a.2, h.1, h.2, a.1)
