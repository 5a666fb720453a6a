-- `decimal::digits_at` meets its contract: each turn reads one digit more. Assumes nothing.
use native.Mathlib.Omega.{arith}
use Rattle.decimal.proofs.DigitsRead.{Ended, none_past, rest_is, value_small, one_more, ended_here, ended_there, answered, too_many}
use Rattle.decimal.proofs.digits_at.Goals as goal
use Rattle.decimal.proofs.digits_at.Goals.{else-loop-b-test, then-loop-b-test+then-not-is_ascii_digit}

pub returns-in_err-rest : goal.returns-in_err-rest
returns-in_err-rest c = rw c.from_residual.ensures (none_past c.args.s.now c.args.at (omega (arith, c.in_err-rest.ensures.lookup)), tt)

pub returns-then-count-eq-MOST_DIGITS : goal.returns-then-count-eq-MOST_DIGITS
returns-then-count-eq-MOST_DIGITS c =
    let l = c.loop-b.invariant in
    let digit = c.if-not-is_ascii_digit.ensures.cases in
    rw (rest_is c.args.s.now c.in_ok-rest.rest.now c.args.at c.in_ok-rest.ensures.lookup.0.2)
    (too_many _ _ _ _ l.0 l.1 c.loop-b-test.true digit.0 digit.1 c.if-count-eq-MOST_DIGITS.true, tt)

pub loop-b-preserved : goal.loop-b-preserved
loop-b-preserved c =
    let l = c.loop-b.invariant in
    let digit = c.if-not-is_ascii_digit.ensures.cases in
    (rw c.from.ensures (one_more _ _ _ _ l.0 l.1 c.loop-b-test.true digit.0 digit.1), omega arith, omega arith)

pub returns : goal.returns
returns c =
    let l = c.loop-b.invariant in
    let ended : Ended c.in_ok-rest.rest.now c.loop-b.count c.loop-b.value =
    elim c.loop-b-test.branch [
      | else-loop-b-test w ↦ ended_there _ _ _ l.0 (omega arith)
      | then-loop-b-test+then-not-is_ascii_digit w ↦ ended_here _ _ _ _ l.0 l.1 w.loop-b-test.true w.if-not-is_ascii_digit.ensures.cases
    ] in
    rw (rest_is c.args.s.now c.in_ok-rest.rest.now c.args.at c.in_ok-rest.ensures.lookup.0.2)
    (answered c.in_ok-rest.rest.now c.loop-b.count c.loop-b.value c.then_some.result ended l.2 (value_small _ _ _ l.0 l.2) c.then_some.ensures)
