-- The invariant of `decimal::digits_needed_from`'s loop.
use Rattle.decimal.specs.Counting.{Counting}
use Rattle.decimal.proofs.digits_needed_from.Given as goal

abbrev pub invariant-loop-k : goal.invariant-loop-k
invariant-loop-k l = Counting l.v l.k l.limit
