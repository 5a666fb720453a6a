-- `writing::put_entries` meets its contract: after e turns e entries are written, and due is where the next body starts. Assumes nothing.
use mathlib.Core.Path.{refl}
use Rattle.writing.specs.Contents.{due_in, put_entries}
use Rattle.writing.proofs.EntryByEntry.{as_long, kind_known, kind_small, due_small, rows_small, span_fits, end_fits, end_near, next_put, next_due, all_put}
use borrow.Author.Rules.{rules}
use Rattle.writing.proofs.put_entries.Goals as goal

pub loop-e-init : goal.loop-e-init
unfolding put_entries due_in
loop-e-init c = (refl, refl, search rules, search rules)

pub put_entry-requires : goal.put_entry-requires
put_entry-requires c = (search as_long, search rules, search kind_small, search due_small, search rows_small)

pub width_of-requires : goal.width_of-requires
width_of-requires c = search (kind_known, rules)

pub overflow_mul-due : goal.overflow_mul-due
overflow_mul-due c = search span_fits

pub overflow_add-due : goal.overflow_add-due
overflow_add-due c = search end_fits

pub loop-e-preserved : goal.loop-e-preserved
loop-e-preserved c = (search rules, search next_put, search next_due, search end_near)

pub returns : goal.returns
returns c = search all_put
