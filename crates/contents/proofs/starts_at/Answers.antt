-- `contents::starts_at` meets its contract. Assumes nothing.
use Rattle.contents.proofs.starts_at.Goals as goal

pub returns : goal.returns
returns c = rw (c.start_at.ensures.0, c.requires.1)
