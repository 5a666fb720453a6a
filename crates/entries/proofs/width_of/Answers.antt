-- `entries::width_of` meets its contract. Assumes nothing.
use Rattle.entries.proofs.ByTable.{width_two, width_one}
use Rattle.entries.proofs.width_of.Goals as goal

pub returns-then-kind-lt-EASTING : goal.returns-then-kind-lt-EASTING
returns-then-kind-lt-EASTING c = search width_two

pub returns : goal.returns
returns c = search width_one
