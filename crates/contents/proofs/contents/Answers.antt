-- `contents::contents` meets its contract. Assumes nothing.
use Rattle.contents.specs.Contents.{contents_of}
use Rattle.refusals.proofs.Ladders.{stop, go}
use Rattle.entries.proofs.Forms.{has-contents}
use Rattle.contents.proofs.Limits.{long, has_word}
use Rattle.contents.proofs.OfFault.{by_form}
use Rattle.contents.proofs.contents.Goals as goal

pub returns-then-not-is_sized : goal.returns-then-not-is_sized
unfolding contents_of
returns-then-not-is_sized c = search stop

pub is_known-requires : goal.is_known-requires
is_known-requires c = search has_word

pub returns-then-not-is_known : goal.returns-then-not-is_known
unfolding contents_of
returns-then-not-is_known c = search (stop, go)

pub form_of-requires : goal.form_of-requires
form_of-requires c = search has_word

pub invariant_of-contents_by : goal.invariant_of-contents_by
invariant_of-contents_by c = record { there = search (has-contents, long) }

pub returns : goal.returns
unfolding contents_of
returns c = search (go, by_form)
