use Rattle.std.proofs.Common.{◌≡◌, length, take}
use Rattle.files.proofs.read_part.Given as goal

abbrev pub invariant-loop : goal.invariant-loop
invariant-loop g l = (take l.from l.buf ≡ take l.from l.initial.buf) × (length l.buf ≡ length l.initial.buf)
