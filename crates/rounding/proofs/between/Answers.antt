-- `rounding::between` meets its contract. Assumes nothing.
use mathlib.Core.Path.{◌∙◌}
use native.Mathlib.Omega.{arith}
use Rattle.rounding.specs.Between.{between, between_half}
use Rattle.rounding.proofs.Rounding.{rounded}
use Rattle.rounding.proofs.Halves.{marked}
use Rattle.rounding.proofs.Raised.{first_fits, second_fits, weighed_fits, weighed_signed, less_raise, less_raise_fits, less_raise_most, exact_raised}
use Rattle.rounding.proofs.between.Goals as goal

pub overflow_mul-sum : goal.overflow_mul-sum
overflow_mul-sum c = search first_fits

pub overflow_mul-sum-2 : goal.overflow_mul-sum-2
overflow_mul-sum-2 c = search second_fits

pub overflow_add-sum : goal.overflow_add-sum
overflow_add-sum c = search weighed_fits

pub overflow_cast-sum : goal.overflow_cast-sum
overflow_cast-sum c = search weighed_signed

pub overflow_sub-sum : goal.overflow_sub-sum
overflow_sub-sum c = search less_raise_fits

pub nearest-requires : goal.nearest-requires
nearest-requires c = (search less_raise_most, c.requires.4, omega arith)

pub returns : goal.returns
unfolding between between_half
returns c =
    let a = c.args in
    let p = c.requires in
    let sum = less_raise _ _ _ _ p.0 p.1 p.2 p.3 in
    let exact = exact_raised a.t a.step p.2 a.u a.w in
    (rounded a.step sum c.nearest.ensures.0 ∙ rw exact, marked a.step sum c.nearest.ensures.1 ∙ rw exact)
