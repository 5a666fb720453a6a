-- `survey_samples::back` meets its contract. Assumes nothing.
use Rattle.refusals.proofs.Ladders.{kept}
use Rattle.extent.proofs.Reach.{easting-within}
use Rattle.survey_samples.proofs.back.Goals as goal

pub show_reduction-requires : goal.show_reduction-requires
show_reduction-requires c =
    let there = kept _ _ c.easting_known.ensures c.if-not-easting_known.false in
    (rw c.size.ensures (easting-within _ _ there), kept _ _ c.northing_known.ensures c.if-not-northing_known.false)
