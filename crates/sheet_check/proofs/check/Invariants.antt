-- The invariant of `sheet_check::check`'s loop.
use mathlib.Core.Path.{◌≡◌}
use Prim.Native.Nat.{◌+◌, ◌-◌, ◌≤◌}
use Rattle.entries.specs.Layout.{last_kind}
use Rattle.contents.specs.Contents.{contents_of}
use Rattle.sheet_check.specs.Check.{bodies_of, check_of}
use Rattle.sheet_check.proofs.check.Given as goal

abbrev pub invariant-loop-kind : goal.invariant-loop-kind
invariant-loop-kind l = (1 ≤ l.kind) × (l.kind ≤ last_kind + 1) × ((contents_of l.sheet).number ≡ 0) × (check_of l.sheet ≡ bodies_of l.sheet (last_kind + 1 - l.kind) l.kind)
