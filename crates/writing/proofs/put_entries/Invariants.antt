-- The invariant of `writing::put_entries`'s loop.
use mathlib.Core.Path.{◌≡◌}
use Prim.Native.Nat.{◌+◌, ◌*◌, ◌≤◌}
use lib.ListN.{length}
use Rattle.entries.specs.Layout.{most_first, most_bytes, most_width}
use Rattle.writing.specs.Contents.{due_in, put_entries}
use Rattle.writing.proofs.put_entries.Given as goal

abbrev pub invariant-loop-e : goal.invariant-loop-e
invariant-loop-e l =
    (length l.s ≡ length l.initial.s) × (l.s ≡ put_entries l.f l.initial.s l.kinds l.rows l.e) × (l.due ≡ due_in l.f l.kinds l.rows l.e) × (l.due ≤ most_first + l.e * (most_bytes * most_width))
