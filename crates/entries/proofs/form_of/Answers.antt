-- `entries::form_of` meets its contract. Assumes nothing.
use Rattle.entries.proofs.form_of.Goals as goal

pub returns : goal.returns
returns c = cc
