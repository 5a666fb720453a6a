-- The invariant and the measure of `row_search::down`'s loop.
use Prim.Native.Nat.{◌<◌}
use Rattle.row_search.proofs.down.Given as goal

abbrev pub invariant-loop-row : goal.invariant-loop-row
invariant-loop-row l = l.row < l.n

abbrev pub decreases-loop-row : goal.decreases-loop-row
decreases-loop-row l = l.row
