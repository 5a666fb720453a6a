-- The invariant of `contents::entries`'s loop.
use mathlib.Core.Path.{◌≡◌}
use Prim.Native.Nat.{◌+◌, ◌*◌, ◌-◌, ◌≤◌}
use Rattle.refusals.specs.Faults.{first_fault}
use Rattle.entries.specs.Layout.{most_first, most_width}
use Rattle.entries.specs.Entries.{due_at}
use Rattle.contents.specs.Contents.{entry_fault}
use Rattle.contents.proofs.entries.Given as goal

abbrev pub invariant-loop-e : goal.invariant-loop-e
invariant-loop-e l =
    (l.due ≡ due_at l.c.form l.c.sheet.now l.e) × (l.due ≤ most_first + l.e * (4_294_967_296 * most_width))
    × (first_fault (entry_fault l.c.form l.c.sheet.now) l.c.form.kinds 0 ≡ first_fault (entry_fault l.c.form l.c.sheet.now) (l.c.form.kinds - l.e) l.e)
