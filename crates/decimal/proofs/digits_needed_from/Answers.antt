-- `decimal::digits_needed_from` meets its contract. Assumes nothing.
use mathlib.Core.Path.{◌≡◌, ◌∙◌}
use native.Mathlib.Omega.{arith}
use lib.Dec.{lit≤}
use Rattle.decimal.proofs.Spelling.{limit_small, placed, next_place, last-place}
use Rattle.decimal.proofs.digits_needed_from.Goals as goal

-- ---- what it answers
pub returns-then-v-limit : goal.returns-then-v-limit
returns-then-v-limit c = let p = c.loop-k.invariant in (placed _ _ _ p c.if-v-limit.true, omega (arith, p.most))

pub returns-then-v-limit-2 : goal.returns-then-v-limit-2
returns-then-v-limit-2 c =
    let l = c.loop-k in
    let e : 19 ≡ l.k = omega (arith, l.invariant.most) in
    (e ∙ placed _ _ _ l.invariant c.if-v-limit-2.true, lit≤ tt)

pub returns-else-v-limit-2 : goal.returns-else-v-limit-2
returns-else-v-limit-2 c = (last-place _ _ _ c.loop-k.invariant (omega arith) c.if-v-limit-2.false, lit≤ tt)

-- ---- what its loop keeps
pub loop-k-preserved : goal.loop-k-preserved
loop-k-preserved c = next_place _ _ _ c.loop-k.invariant (omega arith) c.if-v-limit.false

-- ---- what its operations ask
pub overflow_mul-limit : goal.overflow_mul-limit
overflow_mul-limit c = record { fits = limit_small _ _ _ c.loop-k.invariant (omega arith) }
