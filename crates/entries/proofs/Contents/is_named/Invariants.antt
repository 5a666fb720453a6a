-- The invariant of `entries::Contents::is_named`'s loop.
use mathlib.Core.Path.{◌≡◌}
use Prim.Native.Nat.{◌≤◌}
use Rattle.entries.specs.Entries.{named}
use Rattle.entries.proofs.Contents.is_named.Given as goal

abbrev pub invariant-loop-e : goal.invariant-loop-e
invariant-loop-e l = (l.e ≤ l.self.form.kinds) × (named l.self.form l.self.sheet.now l.kind l.n ≡ named l.self.form l.self.sheet.now l.kind l.e)
