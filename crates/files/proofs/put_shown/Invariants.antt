use Rattle.std.proofs.Common.{◌≡◌, ◌++◌, map, length, take, drop}
use Rattle.files.specs.Shown.{shown_byte}
use Rattle.files.proofs.put_shown.Given as goal

abbrev pub invariant-loop-i : goal.invariant-loop-i
invariant-loop-i l = (l.memory ≡ map shown_byte (take l.i l.name) ++ drop l.i l.initial.memory) × (length l.memory ≡ length l.initial.memory)
