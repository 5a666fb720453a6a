use Rattle.std.proofs.Common.{◌-◌, ◌≤◌, length}
use Rattle.script.proofs.run.Given as goal

abbrev pub invariant-loop-at : goal.invariant-loop-at
invariant-loop-at l = l.n ≤ length l.script

abbrev pub decreases-loop-at : goal.decreases-loop-at
decreases-loop-at l = l.n - l.at
