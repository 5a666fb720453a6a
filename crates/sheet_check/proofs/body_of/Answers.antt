-- `sheet_check::body_of` meets its contract. Assumes nothing.
use Rattle.sheet_check.proofs.Parts.{long_enough, body_some, body_fault}
use borrow.Author.Rules.{rules}
use Rattle.sheet_check.proofs.body_of.Goals as goal

pub place_of-place-requires : goal.place_of-place-requires
place_of-place-requires c = search long_enough

pub body-requires-2 : goal.body-requires-2
body-requires-2 c = search (body_some, rules)

pub returns : goal.returns
returns c = search body_fault
