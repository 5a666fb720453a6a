-- `inverse::approximate_of` meets its contract. Assumes nothing.
use mathlib.Core.Path.{ap}
use Prim.Native.Nat.{ℕ, ◌*◌, ◌≤◌}
use native.Mathlib.Omega.{arith}
use Rattle.steps.proofs.StepBounds.{approximate_most}
use Rattle.inverse.specs.Inverse.{approximate_by}
use Rattle.inverse.proofs.approximate_of.Goals as goal
use Rattle.inverse.proofs.approximate_of.Goals.{After-approximate_l-l}

small : (c : After-approximate_l-l) → c.approximate_l-l.result.value * 1_000 ≤ 30_000_000
small c = omega (arith, c.approximate_l-l.ensures.0, approximate_most c.args.x c.args.h.value c.requires.0 c.requires.1)

pub returns : goal.returns
unfolding approximate_by
returns c = (ap (λ (n : ℕ). n * 1_000) c.approximate_l-l.ensures.0, small (goal.at.returns c).After-approximate_l-l, c.approximate_l-l.ensures.1)

pub approximate_l-l-requires : goal.approximate_l-l-requires
approximate_l-l-requires c = (c.requires.0, omega (arith, c.requires.1), c.requires.2)

pub overflow_mul-result : goal.overflow_mul-result
overflow_mul-result c = record { fits = omega (arith, small (goal.at.overflow_mul-result c).After-approximate_l-l) }
