use borrow.Author.Rules.{rules}
use Rattle.files.proofs.Showing.{one_more, all_shown}
use Rattle.files.proofs.put_shown.Goals as goal

pub loop-i-preserved : goal.loop-i-preserved
loop-i-preserved c = (search one_more, search rules)

pub returns : goal.returns
returns c = search all_shown
