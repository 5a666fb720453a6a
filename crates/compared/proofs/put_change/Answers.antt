-- `compared::put_change` meets its contract. Assumes nothing.
use native.Mathlib.Omega.{arith}
use mathlib.Core.Path.{◌≡◌}
use mir.Syntax.{w32}
use mir.Val.{to_z, of_z}
use Rattle.decimal.proofs.Spelling.{then}
use Rattle.compared.specs.Compared.{change_line}
use borrow.Author.Rules.{rules}
use Rattle.compared.proofs.put_change.Goals as goal

pub returns : goal.returns
unfolding change_line
returns c =
    let w = c.args.w in
    let one = c.put_size_and-i.ensures in
    let two = c.put_values-j.ensures in
    let three = c.put_answer.ensures in
    let x : to_z w32 (of_z w32 w.first) ≡ w.first = search rules in
    let y : to_z w32 (of_z w32 w.second) ≡ w.second = search rules in
    (omega (arith, one.0, two.0, three.0), then one.1 (then two.1 (rw (x, y) at three.1)))
