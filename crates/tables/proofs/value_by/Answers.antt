-- `tables::value_by` meets its contract. Assumes nothing.
use Rattle.tables.proofs.Parts.{at_asks, value_is, half_is}
use borrow.Author.Rules.{rules}
use Rattle.tables.proofs.value_by.Goals as goal

pub past_row-requires : goal.past_row-requires
past_row-requires c = search (at_asks, rules)

pub returns : goal.returns
returns c = search (value_is, half_is, rules)
