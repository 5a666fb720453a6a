-- The loop keeps where the line ends, as it is found from i on; the bytes from i on become fewer.
use Rattle.std.proofs.Common.{◌≡◌, ◌+◌, ◌-◌, ◌≤◌}
use Rattle.std.proofs.Math.Seq.{slice}
use Rattle.stream.specs.Search.{index_of}
use Rattle.stream.proofs.line_end.Given as goal

abbrev pub invariant-loop-i : goal.invariant-loop-i
invariant-loop-i l = (l.i ≤ l.to) × (l.i + index_of 10 (slice l.i l.to l.buffer) ≡ l.from + index_of 10 (slice l.from l.to l.buffer))

abbrev pub decreases-loop-i : goal.decreases-loop-i
decreases-loop-i l = l.to - l.i
