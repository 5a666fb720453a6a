-- `tables::row_with_next` meets its contract. Assumes nothing.
use Rattle.tables.proofs.Northings.{lent_some, before_some, before_all, bits_first, bits_small, row_with_next_is}
use borrow.Author.Rules.{rules}
use Rattle.tables.proofs.row_with_next.Goals as goal

pub overflow_sub-sheet : goal.overflow_sub-sheet
overflow_sub-sheet c = let known = c.args.sheet.known in search lent_some

pub row_among-requires : goal.row_among-requires
row_among-requires c = let known = c.args.sheet.known in search (before_some, before_all, bits_first, bits_small, rules)

pub returns : goal.returns
returns c = let known = c.args.sheet.known in search (row_with_next_is, rules)
