use Rattle.std.proofs.Common.{◌≡◌, ◌≤◌, length}
use Rattle.files.proofs.read_line.Given as goal

abbrev pub invariant-loop : goal.invariant-loop
invariant-loop l = (l.start ≤ l.n) × (l.n ≤ length l.input) × (length l.input ≡ length l.initial.input)
