-- `reading::size_past_row` meets its contract. Assumes nothing.
use Rattle.rounding.proofs.Raised.{first_fits, second_fits, weighed_fits, weighed_numerator}
use Rattle.reading.proofs.Unsigned.{word_row, sizes_between, sizes_half}
use borrow.Author.Rules.{rules}
use Rattle.reading.proofs.size_past_row.Goals as goal

pub returns : goal.returns
returns c = search (sizes_between, sizes_half, rules)

pub overflow_mul-u : goal.overflow_mul-u
overflow_mul-u c = search (first_fits, word_row)

pub overflow_mul-next : goal.overflow_mul-next
overflow_mul-next c = search (second_fits, word_row)

pub overflow_add-u : goal.overflow_add-u
overflow_add-u c = search (weighed_fits, word_row)

pub nearest_size-requires : goal.nearest_size-requires
nearest_size-requires c = search (weighed_numerator, word_row, rules)
