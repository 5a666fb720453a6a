-- `inverse::b_at` meets its contract. Assumes nothing.
use Rattle.sheet_check.proofs.Known.{longitude-placed}
use Rattle.tables.proofs.Parts.{found_step, place-step}
use borrow.Author.Rules.{rules}
use Rattle.inverse.proofs.b_at.Goals as goal

pub b_by-requires : goal.b_by-requires
b_by-requires c = let known = c.args.sheet.known in search (longitude-placed, found_step, rules)

pub b_by-requires-2 : goal.b_by-requires-2
b_by-requires-2 c = let known = c.args.sheet.known in search (longitude-placed, place-step, rules)
