-- `tables::row_of_northing` meets its contract. Assumes nothing.
use Rattle.tables.proofs.Northings.{lent_some, lent_all, bits_first, bits_small, row_of_is, lent_below}
use borrow.Author.Rules.{rules}
use Rattle.tables.proofs.row_of_northing.Goals as goal

pub row_among-requires : goal.row_among-requires
row_among-requires c = let known = c.args.sheet.known in search (lent_some, lent_all, bits_first, bits_small, rules)

pub returns : goal.returns
returns c = let known = c.args.sheet.known in search (row_of_is, lent_below, rules)
