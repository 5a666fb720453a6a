-- `lines::put_number_and` meets its contract. Assumes nothing.
use native.Mathlib.Omega.{arith}
use mir.Syntax.{w32}
use mir.ValLaws.{to_z-of_z}
use Rattle.decimal.proofs.Spelling.{then}
use Rattle.lines.proofs.put_number_and.Goals as goal

pub returns : goal.returns
returns c =
    let text = c.put_number-next.ensures in
    let byte = c.put_byte.ensures in
    (omega (arith, text.0, byte.0), then (rw (to_z-of_z w32 c.args.v c.ranges.v) at text.1) byte.1)
