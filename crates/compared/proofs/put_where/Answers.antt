-- `compared::put_where` meets its contract. Assumes nothing.
use native.Mathlib.Omega.{arith}
use Rattle.compared.proofs.Comparing.{change_none, change_some, wrote_none}
use Rattle.compared.proofs.put_where.Goals as goal

pub returns-then-not-changed : goal.returns-then-not-changed
returns-then-not-changed c = let a = c.args in
    (omega arith, rw (← change_none a.n a.v a.w a.changed c.if-not-changed.true) (wrote_none _ _))

pub returns : goal.returns
returns c =
    let a = c.args in
    (c.put_change.ensures.0, rw (change_some a.n a.v a.w a.changed c.if-not-changed.false) at c.put_change.ensures.1)
