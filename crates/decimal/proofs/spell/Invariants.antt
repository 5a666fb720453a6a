-- The invariant and the measure of `decimal::spell`'s loop.
use mathlib.Core.Path.{◌≡◌}
use Prim.Native.Nat.{◌≤◌}
use lib.ListN.{length}
use lib.Seq.{sets}
use Rattle.decimal.specs.Writing.{spelled}
use Rattle.decimal.proofs.spell.Given as goal

abbrev pub invariant-loop-i : goal.invariant-loop-i
invariant-loop-i l = (l.i ≤ l.k) × (length l.out ≡ length l.initial.out) × (sets l.out l.at (spelled l.i l.rest) ≡ sets l.initial.out l.at (spelled l.k l.v))

abbrev pub decreases-loop-i : goal.decreases-loop-i
decreases-loop-i l = l.i
