-- `extent::position` meets its contract. Assumes nothing.
use Rattle.tables.proofs.Parts.{rows_two, offset_fits, step-some, step_small, step_fits, offset_inside, in_table}
use borrow.Author.Rules.{rules}
use Rattle.extent.proofs.position.Goals as goal

pub at_offset-requires : goal.at_offset-requires
at_offset-requires c = search (rows_two, step-some, step_small, offset_inside, rules)

pub returns : goal.returns
returns c = search (in_table, rules)

pub overflow_cast-step : goal.overflow_cast-step
overflow_cast-step c = search step_fits

pub overflow_cast-offset : goal.overflow_cast-offset
overflow_cast-offset c = search offset_fits
