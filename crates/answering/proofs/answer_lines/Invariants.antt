-- The invariant and the measure of `answering::answer_lines`'s loop.
use Rattle.std.proofs.Common.{◌≡◌, ◌+◌, ◌-◌, ◌≤◌, length}
use Rattle.std.proofs.Math.Seq.{slice}
use Rattle.stream.specs.Search.{index_of}
use Rattle.answering.proofs.Working.{Working}
use Rattle.answering.proofs.answer_lines.Given as goal

abbrev pub invariant-loop-end : goal.invariant-loop-end
invariant-loop-end g l =
    let way = g.A.Answers in
    Working (way.way l.by) way.room l.buffer l.initial.i l.to l.initial.state l.initial.out l.out l.i l.at l.state × (l.end ≡ l.i + index_of 10 (slice l.i l.to l.buffer)) × (l.end ≤ l.to) × (length l.out ≡ length l.initial.out)

abbrev pub decreases-loop-end : goal.decreases-loop-end
decreases-loop-end g l = l.to - l.i
