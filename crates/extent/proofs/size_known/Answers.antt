-- `extent::size_known` meets its contract. Assumes nothing.
use mathlib.Core.Path.{◌≡◌, ◌∙◌}
use mir.Syntax.{w64}
use mir.Val.{to_z, of_z}
use Rattle.extent.specs.Extent.{size_known}
use borrow.Author.Rules.{rules}
use Rattle.extent.proofs.size_known.Goals as goal

pub returns : goal.returns
unfolding size_known
returns c =
    let z : to_z w64 (of_z w64 c.args.size) ≡ c.args.size = search rules in
    c.within.ensures ∙ rw z
