-- `extent::within` meets its contract. Assumes nothing.
use Rattle.extent.proofs.Counts.{count_some, count_most, its_step, within_is}
use Rattle.tables.proofs.Answers.{placed_in}
use borrow.Author.Rules.{rules}
use Rattle.extent.proofs.within.Goals as goal

pub returns : goal.returns
returns c = let placed = placed_in c.table.ensures c.table.result.placed in search (within_is, rules)

pub within_rows-requires : goal.within_rows-requires
within_rows-requires c = let placed = placed_in c.table.ensures c.table.result.placed in search (count_some, count_most, its_step)
