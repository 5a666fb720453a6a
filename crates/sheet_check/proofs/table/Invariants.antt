-- The invariant of `sheet_check::table`'s loop.
use mathlib.Core.Path.{◌≡◌}
use Prim.Native.Nat.{◌-◌}
use Rattle.refusals.specs.Faults.{first_fault}
use Rattle.sheet_check.specs.Check.{row_fault}
use Rattle.sheet_check.proofs.table.Given as goal

abbrev pub invariant-loop-i : goal.invariant-loop-i
invariant-loop-i l = first_fault (row_fault l.kind l.b l.n) l.n 0 ≡ first_fault (row_fault l.kind l.b l.n) (l.n - l.i) l.i
