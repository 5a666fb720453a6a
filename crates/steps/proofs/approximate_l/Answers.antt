-- `steps::approximate_l` meets its contract. Assumes nothing.
use Rattle.steps.specs.Steps.{approximate_l, approximate_l_half}
use Rattle.steps.proofs.approximate_l.Goals as goal

pub returns : goal.returns
unfolding approximate_l approximate_l_half
returns c = c.nearest_size.ensures
