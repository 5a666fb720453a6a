-- The invariant and the measure of `row_search::up`'s loop.
use mathlib.Core.Path.{◌≡◌}
use mathlib.Core.Bool.{true}
use Prim.Native.Nat.{◌-◌, ◌<◌}
use lib.Signed.{le_z}
use Rattle.reading.specs.Tables.{column}
use Rattle.row_search.proofs.up.Given as goal

abbrev pub invariant-loop-row : goal.invariant-loop-row
invariant-loop-row l = (l.row < l.n) × (le_z (column l.b l.w l.c l.row) l.z ≡ true)

abbrev pub decreases-loop-row : goal.decreases-loop-row
decreases-loop-row l = l.n - l.row
