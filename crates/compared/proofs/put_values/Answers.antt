-- `compared::put_values` meets its contract. Assumes nothing.
use native.Mathlib.Omega.{arith}
use mathlib.Core.Path.{◌≡◌}
use mir.Syntax.{w32}
use mir.Val.{to_z, of_z}
use Rattle.decimal.proofs.Spelling.{then}
use Rattle.compared.specs.Compared.{values_text}
use borrow.Author.Rules.{rules}
use Rattle.compared.proofs.put_values.Goals as goal

pub returns : goal.returns
unfolding values_text
returns c =
    let v = c.args.v in
    let one = c.put_size_and-i.ensures in
    let two = c.put_number_and-j.ensures in
    let three = c.put_number_and.ensures in
    let x : to_z w32 (of_z w32 v.first) ≡ v.first = search rules in
    let y : to_z w32 (of_z w32 v.second) ≡ v.second = search rules in
    (omega (arith, one.0, two.0, three.0), then one.1 (then (rw x at two.1) (rw y at three.1)))
