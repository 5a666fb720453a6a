-- `forward::taken_at` meets its contract. Assumes nothing.
use mathlib.Core.Path.{refl}
use Rattle.forward.proofs.Eastings.{taken_is}
use Rattle.forward.proofs.taken_at.Goals as goal

pub returns : goal.returns
returns c =
    let read = c.longitude_at-read in
    taken_is _ _ _ _ c.y0_at.ensures.0 c.y0_at.ensures.2 c.h_at.ensures.0 c.h_at.ensures.3 c.v_at.ensures.0 c.v_at.ensures.2 c.a_at.ensures.0 c.a_at.ensures.2 {read = read.result} read.ensures refl refl
