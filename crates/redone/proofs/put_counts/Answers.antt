-- `redone::put_counts` meets its contract. Assumes nothing.
use native.Mathlib.Omega.{arith}
use Rattle.decimal.proofs.Spelling.{then}
use Rattle.redone.specs.Tallied.{counts_text}
use Rattle.redone.proofs.put_counts.Goals as goal

pub returns : goal.returns
unfolding counts_text
returns c =
    let one = c.put_size_and-i.ensures in
    let two = c.put_size_and-j.ensures in
    let three = c.put_size_and.ensures in
    (omega (arith, one.0, two.0, three.0), then one.1 (then two.1 three.1))
