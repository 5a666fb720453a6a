-- The invariant of `entries::Contents::entry_of`'s loop.
use mathlib.Core.Path.{◌≡◌}
use Prim.Native.Nat.{◌≤◌}
use Rattle.entries.specs.Entries.{entry_of}
use Rattle.entries.proofs.Contents.entry_of.Given as goal

abbrev pub invariant-loop-e : goal.invariant-loop-e
invariant-loop-e l = (l.e ≤ l.self.form.kinds) × (entry_of l.self.form l.self.sheet.now l.kind l.self.form.kinds ≡ entry_of l.self.form l.self.sheet.now l.kind l.e)
