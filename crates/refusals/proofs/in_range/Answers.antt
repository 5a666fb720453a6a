-- `refusals::in_range` meets its contract. Assumes nothing.
use Rattle.std.proofs.Common.{arith}
use Rattle.std.proofs.lemmas.Grind.{common_steps}
use mir.Facts.{to_z-of_z}
use Rattle.refusals.specs.Tests.{in_range}
use Rattle.refusals.proofs.in_range.Goals as goal

pub returns : goal.returns
unfolding in_range
returns c = grind (arith, common_steps, to_z-of_z)
