-- `extent::reduced_known` meets its contract. Assumes nothing.
use mathlib.Core.Path.{◌≡◌}
use mir.Syntax.{w64}
use mir.Val.{to_z, of_z}
use Rattle.tables.specs.Figures.{y0_of}
use Rattle.tables.proofs.Ranges.{latitude-some}
use Rattle.extent.specs.Extent.{reduced_known}
use Rattle.extent.proofs.Counts.{count_is, count_one, last_there}
use Rattle.extent.proofs.Points.{from_first_to_last}
use borrow.Author.Rules.{rules}
use Rattle.extent.proofs.reduced_known.Goals as goal

pub returns : goal.returns
unfolding reduced_known
returns c =
    let z : to_z w64 (of_z w64 c.args.reduced) ≡ c.args.reduced = search rules in
    let low : to_z w64 (of_z w64 c.y0_of.result) ≡ c.y0_of.result = search rules in
    let high : to_z w64 (of_z w64 c.y0_of-2.result) ≡ c.y0_of-2.result = search rules in
    rw (z, low, high)
    (from_first_to_last (y0_of _) c.args.reduced c.y0_of.ensures.0 c.y0_of-2.ensures.0 (count_is _ _ c.args.sheet.known))

pub y0_of-requires : goal.y0_of-requires
y0_of-requires c = let known = c.args.sheet.known in search (latitude-some, rules)

pub overflow_sub-sheet : goal.overflow_sub-sheet
overflow_sub-sheet c = let known = c.args.sheet.known in search count_one

pub y0_of-requires-2 : goal.y0_of-requires-2
y0_of-requires-2 c = let known = c.args.sheet.known in search (last_there, rules)
