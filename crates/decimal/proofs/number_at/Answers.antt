-- `decimal::number_at` meets its contract. Assumes nothing.
use Rattle.decimal.proofs.NumbersRead.{no_number_at, number_is}
use Rattle.decimal.proofs.number_at.Goals as goal

pub returns-in_err-d : goal.returns-in_err-d
returns-in_err-d c = rw c.from_residual.ensures (no_number_at c.args.s.now c.args.at _ _ c.byte_at-minus.ensures c.from.ensures c.in_err-d.ensures.0, tt)

pub returns : goal.returns
returns c = (number_is c.args.s.now c.args.at _ _ c.byte_at-minus.ensures c.from.ensures _ _ c.in_ok-d.ensures.0 c.number_of.ensures.0, c.number_of.ensures.1)
