-- `lines::put_verdict` meets its contract. Assumes nothing.
use native.Mathlib.Omega.{arith}
use Rattle.decimal.proofs.Spelling.{then}
use Rattle.lines.specs.Lines.{verdict_line}
use Rattle.lines.proofs.put_verdict.Goals as goal

pub returns : goal.returns
unfolding verdict_line
returns c =
    let one = c.put_size_and-i.ensures in
    let two = c.put_size_and-j.ensures in
    let three = c.put_size_and.ensures in
    (omega (arith, one.0, two.0, three.0), then one.1 (then two.1 three.1))
