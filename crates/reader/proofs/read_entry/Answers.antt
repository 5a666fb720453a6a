-- `reader::read_entry` meets its contract: the end without a word 0 and past the last entry, and what the reader reads at the entry's place; then that the place is a number of 64
-- bits. Assumes nothing.
use Rattle.entries.proofs.Forms.{of_sheet, entry_fits, next_fits}
use Rattle.reader.proofs.Reading.{no_word, past-last, numbered_is}
use Rattle.reader.proofs.read_entry.Goals as goal

pub returns-then-sheet-lt4 : goal.returns-then-sheet-lt4
returns-then-sheet-lt4 c = search no_word

pub returns-then-f-e : goal.returns-then-f-e
returns-then-f-e c = search past-last

pub overflow_mul-f : goal.overflow_mul-f
overflow_mul-f c = search (entry_fits, of_sheet)

pub overflow_add-f : goal.overflow_add-f
overflow_add-f c = search (next_fits, of_sheet)

pub returns : goal.returns
returns c = search numbered_is
