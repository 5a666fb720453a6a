-- `lines::put_answer` meets its contract. Assumes nothing.
use native.Mathlib.Omega.{arith}
use mir.Syntax.{w32}
use mir.ValLaws.{to_z-of_z}
use Rattle.decimal.proofs.Spelling.{then}
use Rattle.lines.specs.Lines.{answer_line}
use Rattle.lines.proofs.put_answer.Goals as goal

pub returns : goal.returns
unfolding answer_line
returns c =
    let one = c.put_size_and-i.ensures in
    let two = c.put_number_and-j.ensures in
    let three = c.put_number_and.ensures in
    let a = to_z-of_z w32 c.args.a c.ranges.a in
    let b = to_z-of_z w32 c.args.b c.ranges.b in
    (omega (arith, one.0, two.0, three.0), then one.1 (then (rw a at two.1) (rw b at three.1)))
