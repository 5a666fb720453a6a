-- `judge::bound_before` meets its contract. Assumes nothing.
use Rattle.judge.proofs.Bounds.{before_is, none_before}
use Rattle.judge.proofs.bound_before.Goals as goal

pub returns-then-r-gt0 : goal.returns-then-r-gt0
returns-then-r-gt0 c = search before_is

pub returns : goal.returns
returns c = search none_before
