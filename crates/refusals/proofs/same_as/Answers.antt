-- `refusals::same_as` meets its contract. Assumes nothing.
use mir.Syntax.{w32}
use Rattle.refusals.proofs.Ranges.{same_bits}
use Rattle.refusals.proofs.same_as.Goals as goal

pub returns : goal.returns
returns c = same_bits w32 c.args.x c.args.y c.ranges.x c.ranges.y
