-- `correct::differences_after` meets its contract. Assumes nothing.
use Rattle.correct.proofs.Rewritten.{after_bounds, after-worked}
use Rattle.correct.proofs.Steps.{worked-last}
use Rattle.correct.proofs.differences_after.Goals as goal

pub returns-then-r-n : goal.returns-then-r-n
returns-then-r-n c = search after-worked

pub returns : goal.returns
returns c = search worked-last

pub differences_of-requires : goal.differences_of-requires
differences_of-requires c = search after_bounds
