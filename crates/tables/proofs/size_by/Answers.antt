-- `tables::size_by` meets its contract. Assumes nothing.
use Rattle.tables.proofs.Parts.{at_asks, this_sign, next_sign, value_is, half_is}
use borrow.Author.Rules.{rules}
use Rattle.tables.proofs.size_by.Goals as goal

pub size_past_row-requires : goal.size_past_row-requires
size_past_row-requires c = search (at_asks, this_sign, next_sign, rules)

pub returns : goal.returns
returns c = search (value_is, half_is, rules)
