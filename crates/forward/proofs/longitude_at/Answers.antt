-- `forward::longitude_at` meets its contract. Assumes nothing.
use Rattle.sheet_check.proofs.Known.{longitude-placed}
use Rattle.tables.proofs.Parts.{found_step, place-step}
use borrow.Author.Rules.{rules}
use Rattle.forward.proofs.longitude_at.Goals as goal

pub longitude_by-requires : goal.longitude_by-requires
longitude_by-requires c = let known = c.args.sheet.known in search (longitude-placed, found_step, rules)

pub longitude_by-requires-2 : goal.longitude_by-requires-2
longitude_by-requires-2 c = let known = c.args.sheet.known in search (longitude-placed, place-step, rules)
