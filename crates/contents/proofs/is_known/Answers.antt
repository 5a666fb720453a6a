-- `contents::is_known` meets its contract. Assumes nothing.
use Rattle.contents.proofs.is_known.Goals as goal

pub returns : goal.returns
returns c = cc
