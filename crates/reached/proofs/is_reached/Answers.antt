-- `reached::is_reached` meets its contract. Assumes nothing.
use Rattle.reached.proofs.Asking.{on_either, none-reached}
use borrow.Author.Rules.{rules}
use Rattle.reached.proofs.is_reached.Goals as goal

pub returns-in-Some : goal.returns-in-Some
returns-in-Some c = rw c.in-Some.is (search (on_either, rules))

pub returns-in-None : goal.returns-in-None
returns-in-None c = rw c.in-None.is (none-reached _ _ _)
