-- `contents::entry_fault` meets its contract. Assumes nothing.
use Rattle.refusals.proofs.Ladders.{stop, go, stop_on, go_past}
use Rattle.contents.specs.Contents.{entry_fault}
use Rattle.contents.proofs.Limits.{known_below}
use borrow.Author.Rules.{rules}
use Rattle.contents.proofs.entry_fault.Goals as goal

pub returns-then-not-names_kind : goal.returns-then-not-names_kind
unfolding entry_fault
returns-then-not-names_kind c = search stop

pub returns-then-named_before : goal.returns-then-named_before
unfolding entry_fault
returns-then-named_before c = search (stop_on, go)

pub returns-then-not-rows_allowed : goal.returns-then-not-rows_allowed
unfolding entry_fault
returns-then-not-rows_allowed c = search (stop, go, go_past)

pub returns-then-not-starts_at : goal.returns-then-not-starts_at
unfolding entry_fault
returns-then-not-starts_at c = search (stop, go, go_past)

pub returns : goal.returns
unfolding entry_fault
returns c = search (go, go_past)

pub rows_allowed-requires : goal.rows_allowed-requires
rows_allowed-requires c = search (known_below, rules)
