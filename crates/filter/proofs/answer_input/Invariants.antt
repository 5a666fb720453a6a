use Rattle.std.proofs.Common.{◌≡◌, ◌≤◌, length}
use Rattle.stream.specs.Stream.{most_kept}
use Rattle.filter.proofs.answer_input.Given as goal

abbrev pub invariant-loop : goal.invariant-loop
invariant-loop g l = (l.s.done.kept ≤ most_kept) × (l.s.done.at ≤ length l.out) × (length l.input ≡ length l.initial.input) × (length l.out ≡ length l.initial.out)
