use Rattle.std.proofs.Common.{refl}
use Rattle.stream.specs.Stream.{goes_on}
use Rattle.stream.proofs.goes_on.Goals as goal

pub returns : goal.returns
unfolding goes_on
returns c = refl
