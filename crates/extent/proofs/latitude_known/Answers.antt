-- `extent::latitude_known` meets its contract. Assumes nothing.
use mathlib.Core.Path.{◌≡◌, ap, ◌∙◌}
use mir.Syntax.{w32, w64}
use mir.Val.{to_z, of_z}
use Rattle.extent.specs.Extent.{from_first, latitude_known}
use Rattle.extent.proofs.Counts.{count_one, minutes_few, minutes_is}
use borrow.Author.Rules.{rules}
use Rattle.extent.proofs.latitude_known.Goals as goal

pub within_rows-requires : goal.within_rows-requires
within_rows-requires c = let known = c.args.sheet.known in search (count_one, minutes_few, rules)

pub returns : goal.returns
unfolding latitude_known
returns c =
    let t : to_z w64 (of_z w64 c.from_first.result) ≡ c.from_first.result = search rules in
    let north : to_z w32 (of_z w32 c.args.latitude) ≡ c.args.latitude = search rules in
    minutes_is _ _ c.args.sheet.known _ _ _ (t ∙ c.from_first.ensures ∙ ap (from_first _) north) c.within_rows.ensures
