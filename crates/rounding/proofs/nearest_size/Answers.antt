-- `rounding::nearest_size` meets its contract: the comparison picks the one of the two numbers that is the nearest. Assumes nothing.
use mathlib.Core.Path.{refl}
use native.Mathlib.Omega.{arith}
use Rattle.rounding.specs.Nearest.{on_half_size}
use Rattle.rounding.proofs.Rounding.{quotient_nearer, next-as-near, twice-rest-fits, next_fits}
use Rattle.rounding.proofs.nearest_size.Goals as goal

pub overflow_mul-twice_rest : goal.overflow_mul-twice_rest
overflow_mul-twice_rest c = search twice-rest-fits

pub overflow_add-next : goal.overflow_add-next
overflow_add-next c = search next_fits

pub returns-then-d-twice_rest : goal.returns-then-d-twice_rest
unfolding on_half_size
returns-then-d-twice_rest c = (next-as-near _ _ c.requires.1 (omega arith), refl)

pub returns-else-d-twice_rest : goal.returns-else-d-twice_rest
unfolding on_half_size
returns-else-d-twice_rest c = (quotient_nearer _ _ c.requires.1 (omega arith), refl)
