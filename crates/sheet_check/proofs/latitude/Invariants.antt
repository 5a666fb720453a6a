-- The invariant of `sheet_check::latitude`'s loop.
use mathlib.Core.Path.{◌≡◌}
use Prim.Native.Nat.{◌-◌}
use Rattle.refusals.specs.Faults.{first_fault}
use Rattle.latitude_rows.specs.Rows.{row_at, latitude_fault}
use Rattle.sheet_check.proofs.latitude.Given as goal

abbrev pub invariant-loop-i : goal.invariant-loop-i
invariant-loop-i l = (l.row ≡ row_at l.b l.i) × (first_fault (latitude_fault l.b l.n) l.n 0 ≡ first_fault (latitude_fault l.b l.n) (l.n - l.i) l.i)
