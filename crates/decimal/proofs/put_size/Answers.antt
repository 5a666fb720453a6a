-- `decimal::put_size` meets its contract. Assumes nothing.
use native.Mathlib.Omega.{arith}
use Rattle.decimal.proofs.Spelling.{length_size, written_size}
use Rattle.decimal.proofs.put_size.Goals as goal

pub returns : goal.returns
returns c =
    let start = c in
    let k = c.digits_needed-k.ensures in
    let n = length_size start.args.v _ k.0 in
    (omega (arith, k.1), record { place = omega (arith, n); bytes = written_size _ _ _ _ _ k.0 c.spell.ensures })
