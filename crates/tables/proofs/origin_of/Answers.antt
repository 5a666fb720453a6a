-- `tables::origin_of` meets its contract. Assumes nothing.
use mathlib.Core.Path.{◌∙◌}
use Rattle.rounding.proofs.Bits.{bits_is}
use Rattle.tables.specs.Figures.{origin_of}
use Rattle.tables.proofs.origin_of.Goals as goal

pub returns : goal.returns
unfolding origin_of
returns c =
    let first = c.first_latitude-first in
    let central = c.central_meridian-central in
    let easting = c.false_easting in
    rw (bits_is first.type_inv ∙ first.ensures.0, bits_is central.type_inv ∙ central.ensures.0, bits_is easting.type_inv ∙ easting.ensures.0)
