-- `extent::longitude_known` meets its contract. Assumes nothing.
use mathlib.Core.Path.{◌≡◌, ap, ◌∙◌}
use lib.Dec.{lit≤}
use native.Mathlib.Nat.{le_trans}
use mir.Syntax.{w32, w64}
use mir.Val.{to_z, of_z}
use Rattle.extent.specs.Extent.{l_of, size_known, longitude_known}
use Rattle.extent.proofs.Points.{size_small, size_signed, size_tested}
use borrow.Author.Rules.{rules}
use Rattle.extent.proofs.longitude_known.Goals as goal

pub returns : goal.returns
unfolding longitude_known
returns c =
    let z : to_z w64 (of_z w64 c.l_of.result) ≡ c.l_of.result = search rules in
    let west : to_z w32 (of_z w32 c.args.longitude) ≡ c.args.longitude = search rules in
    let size = size_tested z (le_trans c.l_of.ensures.1 (lit≤ tt)) c.size-size.ensures (size_known _) c.size_known.ensures in
    rw (west, size, c.l_of.ensures.0 ∙ ap (l_of _) west)

pub size-size-requires : goal.size-size-requires
size-size-requires c =
    let z : to_z w64 (of_z w64 c.l_of.result) ≡ c.l_of.result = search rules in
    size_small z (le_trans c.l_of.ensures.1 (lit≤ tt))

pub overflow_cast-size : goal.overflow_cast-size
overflow_cast-size c =
    let z : to_z w64 (of_z w64 c.l_of.result) ≡ c.l_of.result = search rules in
    size_signed z (le_trans c.l_of.ensures.1 (lit≤ tt)) c.size-size.ensures
