-- `lines::put_size_and` meets its contract. Assumes nothing.
use native.Mathlib.Omega.{arith}
use Rattle.decimal.proofs.Spelling.{then}
use Rattle.lines.proofs.put_size_and.Goals as goal

pub returns : goal.returns
returns c =
    let text = c.put_size-next.ensures in
    let byte = c.put_byte.ensures in
    (omega (arith, text.0, byte.0), then text.1 byte.1)
