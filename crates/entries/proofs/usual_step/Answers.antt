-- `entries::usual_step` meets its contract. Assumes nothing.
use Rattle.entries.proofs.ByTable.{step-none}
use Rattle.entries.proofs.usual_step.Goals as goal

pub returns : goal.returns
returns c = search step-none
