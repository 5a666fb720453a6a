-- `reached::is_reached_on` meets its contract. Assumes nothing.
use Rattle.reached.proofs.Asking.{at_two}
use borrow.Author.Rules.{rules}
use Rattle.reached.proofs.is_reached_on.Goals as goal

pub returns : goal.returns
returns c =
    let old = c.args.old.known.passes in
    let own = c.args.sheet.known.passes in
    search (at_two, rules)
