-- `judge::bound_after` meets its contract. Assumes nothing.
use Rattle.judge.proofs.Bounds.{after_is, none_after}
use Rattle.judge.proofs.bound_after.Goals as goal

pub returns-then-r-n : goal.returns-then-r-n
returns-then-r-n c = search after_is

pub returns : goal.returns
returns c = search none_after
