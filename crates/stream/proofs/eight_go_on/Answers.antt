use borrow.Author.Rules.{rules}
use Rattle.stream.proofs.GoingOn.{eight}
use Rattle.stream.proofs.eight_go_on.Goals as goal

pub returns : goal.returns
returns c = search (eight, rules)
