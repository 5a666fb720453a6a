-- The invariant of `decimal::digits_at`'s loop.
use mathlib.Core.Path.{◌≡◌}
use Prim.Native.Nat.{◌≤◌}
use Rattle.decimal.proofs.DigitsRead.{Read}
use Rattle.decimal.proofs.digits_at.Given as goal

abbrev pub invariant-loop-b : goal.invariant-loop-b
invariant-loop-b l = Read l.rest l.count l.value × (l.count ≡ l.b-index) × (l.count ≤ 10)
