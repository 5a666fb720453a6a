-- `entries::Contents::step_at` meets its contract. Assumes nothing.
use Rattle.entries.proofs.Contents.step_at.Goals as goal

pub returns : goal.returns
returns c = cc
