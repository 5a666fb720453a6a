-- `extent::scale_known` meets its contract. Assumes nothing.
use mathlib.Core.Path.{◌≡◌}
use lib.Dec.{lit≤}
use native.Mathlib.Nat.{le_trans}
use mir.Syntax.{w64}
use mir.Val.{to_z, of_z}
use Rattle.reading.specs.Tables.{within_rows}
use Rattle.extent.specs.Extent.{scale_known}
use Rattle.extent.proofs.Points.{size_small, size_signed, size_tested}
use borrow.Author.Rules.{rules}
use Rattle.extent.proofs.scale_known.Goals as goal

pub returns : goal.returns
unfolding scale_known
returns c =
    let z : to_z w64 (of_z w64 c.args.xp) ≡ c.args.xp = search rules in
    size_tested z (le_trans c.requires (lit≤ tt)) c.size.ensures (within_rows _ _) c.within.ensures

pub size-requires : goal.size-requires
size-requires c =
    let z : to_z w64 (of_z w64 c.args.xp) ≡ c.args.xp = search rules in
    size_small z (le_trans c.requires (lit≤ tt))

pub overflow_cast-size : goal.overflow_cast-size
overflow_cast-size c =
    let z : to_z w64 (of_z w64 c.args.xp) ≡ c.args.xp = search rules in
    size_signed z (le_trans c.requires (lit≤ tt)) c.size.ensures
