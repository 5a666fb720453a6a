-- `entries::place_of` meets its contract. Assumes nothing.
use Rattle.entries.specs.Entries.{the_entry, start_of, rows_of, step_of}
use Rattle.entries.proofs.Forms.{has-contents, some_word}
use Rattle.entries.proofs.place_of.Goals as goal

pub form_of-requires : goal.form_of-requires
form_of-requires c = search some_word

pub invariant_of-c : goal.invariant_of-c
invariant_of-c c = record { there = has-contents _ _ c.form_of.ensures c.requires }

pub returns : goal.returns
unfolding the_entry start_of rows_of step_of
returns c = cc
