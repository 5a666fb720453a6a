-- `sheet_check::body` meets its contract. Assumes nothing.
use borrow.Author.Rules.{rules}
use Rattle.sheet_check.proofs.Parts.{rows_latitude}
use Rattle.sheet_check.proofs.ByRow.{of_latitude}
use Rattle.sheet_check.proofs.body.Goals as goal

pub returns-then-kind-eq-LATITUDE : goal.returns-then-kind-eq-LATITUDE
returns-then-kind-eq-LATITUDE c = search of_latitude

pub latitude-requires : goal.latitude-requires
latitude-requires c = search (rows_latitude, rules)
