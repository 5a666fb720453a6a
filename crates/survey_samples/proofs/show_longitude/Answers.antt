-- `survey_samples::show_longitude` meets its contract. Assumes nothing.
use native.Mathlib.Nat.{le_trans}
use lib.Dec.{lit≤}
use Rattle.sheet_check.proofs.Known.{longitude-placed}
use Rattle.tables.proofs.Parts.{place-step}
use Rattle.extent.proofs.Reach.{longitude_span}
use Rattle.survey_samples.proofs.show_longitude.Goals as goal

pub position_of-at-requires : goal.position_of-at-requires
position_of-at-requires c = let placed = longitude-placed _ _ c.args.sheet.known in (lit≤ tt, lit≤ tt, lit≤ tt, place-step _ _ _ placed, c.requires)

pub q_of-requires : goal.q_of-requires
q_of-requires c = le_trans c.requires.most (longitude_span _ c.args.sheet.known.passes)
