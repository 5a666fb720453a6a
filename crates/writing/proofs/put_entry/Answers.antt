-- `writing::put_entry` meets its contract. Assumes nothing.
use native.Mathlib.Omega.{arith}
use Rattle.entries.proofs.Forms.{entry_fits, next_fits, word_fits}
use Rattle.writing.proofs.EntryWords.{kind_inside, start_inside, rows_inside, counts_put}
use borrow.Author.Rules.{rules}
use Rattle.writing.proofs.put_entry.Goals as goal

pub overflow_mul-at : goal.overflow_mul-at
overflow_mul-at c = search entry_fits

pub overflow_add-at : goal.overflow_add-at
overflow_add-at c = search next_fits

pub put_count-requires : goal.put_count-requires
put_count-requires c = (search (kind_inside, rules), search rules)

pub overflow_add-at-2 : goal.overflow_add-at-2
overflow_add-at-2 c = search (word_fits, rules)

pub put_count-requires-2 : goal.put_count-requires-2
put_count-requires-2 c =
    (omega (arith, start_inside _ _ _ c.requires.0 c.requires.1), search rules)

pub overflow_add-at-3 : goal.overflow_add-at-3
overflow_add-at-3 c = search (word_fits, rules)

pub put_count-requires-3 : goal.put_count-requires-3
put_count-requires-3 c =
    (omega (arith, rows_inside _ _ _ c.requires.0 c.requires.1), search rules)

pub returns : goal.returns
returns c = search counts_put
