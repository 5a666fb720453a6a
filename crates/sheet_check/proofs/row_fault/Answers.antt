-- `sheet_check::row_fault` meets its contract. Assumes nothing.
use borrow.Author.Rules.{rules}
use native.Mathlib.Omega.{arith}
use mathlib.Core.Path.{◌≡◌}
use Rattle.entries.specs.Layout.{scale}
use Rattle.sheet_check.proofs.Parts.{row-zone, rows_longitude, row-northing, row-easting, row-scale}
use Rattle.sheet_check.proofs.ByRow.{of_zone, of_longitude, of_northing, of_easting, of_scale}
use Rattle.sheet_check.proofs.row_fault.Goals as goal
use Rattle.sheet_check.proofs.row_fault.Goals.{Else-kind-eq-EASTING}

-- a kind that is none of the others is scale
rest_is : (c : Else-kind-eq-EASTING) → c.args.kind ≡ scale
rest_is c = omega (arith, c.requires.2)

pub returns-then-kind-eq-ZONE : goal.returns-then-kind-eq-ZONE
returns-then-kind-eq-ZONE c = search of_zone

pub returns-then-kind-eq-LONGITUDE : goal.returns-then-kind-eq-LONGITUDE
returns-then-kind-eq-LONGITUDE c = search of_longitude

pub returns-then-kind-eq-NORTHING : goal.returns-then-kind-eq-NORTHING
returns-then-kind-eq-NORTHING c = search of_northing

pub returns-then-kind-eq-EASTING : goal.returns-then-kind-eq-EASTING
returns-then-kind-eq-EASTING c = search of_easting

pub returns : goal.returns
returns c = search (of_scale, rest_is (goal.at.returns c).Else-kind-eq-EASTING)

pub zone_at-requires : goal.zone_at-requires
zone_at-requires c = search row-zone

pub longitude_fault-requires : goal.longitude_fault-requires
longitude_fault-requires c = search (rows_longitude, rules)

pub northing_at-requires : goal.northing_at-requires
northing_at-requires c = search row-northing

pub easting_at-requires : goal.easting_at-requires
easting_at-requires c = search row-easting

pub scale_at-requires : goal.scale_at-requires
scale_at-requires c = search (row-scale, rest_is c)
