-- The door's answer for C: the number and the values of each of its cases. Assumes nothing.
use mathlib.Core.Path.{sym, ap}
use lib.Ieee.{of_bits, of_int}
use Rattle.door.specs.Door.{door_told}
use Rattle.capi.specs.Answers.{door_answer}
use Rattle.capi.proofs.DoorAnswerFromResultTwoCountsRefusal.from.Goals as goal

pub returns-in-Ok : goal.returns-in-Ok
unfolding door_answer
returns-in-Ok c = sym (ap (λ r. door_answer (door_told r)) c.in-Ok.is)

pub returns-in-Err : goal.returns-in-Err
unfolding door_answer of_bits of_int
returns-in-Err c = rw c.number.ensures (sym (ap (λ r. door_answer (door_told r)) c.in-Err.is))
