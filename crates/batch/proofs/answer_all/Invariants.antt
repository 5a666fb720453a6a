-- The invariant of `batch::answer_all`'s loop.
use mathlib.Core.Path.{◌≡◌}
use Prim.Native.Nat.{◌≤◌}
use lib.ListN.{length}
use Rattle.batch.specs.Batch.{answered, after_pairs}
use Rattle.batch.proofs.answer_all.Given as goal

abbrev pub invariant-loop-i : goal.invariant-loop-i
invariant-loop-i l =
    (length l.answers ≡ length l.initial.answers) × (l.answers ≡ after_pairs l.sheet.bytes.now l.points l.i l.initial.answers) × (l.count ≡ answered l.sheet.bytes.now l.points l.i) × (l.count ≤ l.i)
