-- `tables::figure_of` meets its contract. Assumes nothing.
use Rattle.tables.proofs.Parts.{row_fits, word_fits, word-asks, figure_is}
use Rattle.tables.proofs.figure_of.Goals as goal

pub overflow_mul-width_of : goal.overflow_mul-width_of
overflow_mul-width_of c = search row_fits

pub overflow_add-width_of : goal.overflow_add-width_of
overflow_add-width_of c = search word_fits

pub unsigned_word-requires : goal.unsigned_word-requires
unsigned_word-requires c = search word-asks

pub returns : goal.returns
returns c = search figure_is
