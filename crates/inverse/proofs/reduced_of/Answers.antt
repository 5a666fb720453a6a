-- `inverse::reduced_of` meets its contract. Assumes nothing.
use mathlib.Core.Path.{◌≡◌, ◌∙◌}
use mir.Syntax.{w64}
use mir.Val.{to_z, of_z}
use Rattle.rounding.proofs.Holds.{Holds, difference, difference_fits, size_below}
use Rattle.steps.specs.Steps.{reduction}
use Rattle.steps.proofs.StepBounds.{reduction-most}
use Rattle.extent.proofs.Points.{wide, wide_fits}
use Rattle.inverse.specs.Inverse.{reduced_by, reduced_by_half}
use borrow.Author.Rules.{rules}
use Rattle.inverse.proofs.reduced_of.Goals as goal
use Rattle.inverse.proofs.reduced_of.Goals.{After-reduction-reduction, Start}

d_is : (c : Start) → to_z w64 (of_z w64 c.args.f.d.value) ≡ c.args.f.d.value
d_is c = search rules

reduction_held : (c : After-reduction-reduction) → let a = c.args in Holds w64 (of_z w64 c.reduction-reduction.result.value) (reduction a.f.p.value a.x a.f.d.value) 8_100_100
reduction_held c =
    let bits : to_z w64 (of_z w64 c.reduction-reduction.result.value) ≡ c.reduction-reduction.result.value = search rules in
    record { is = bits ∙ c.reduction-reduction.ensures.0 ∙ rw (d_is (goal.at.After-reduction-reduction c).Start); size = reduction-most _ _ _ c.requires.0 c.requires.1 c.requires.2 }

pub returns : goal.returns
unfolding reduced_by reduced_by_half
returns c =
    let reduced = difference (wide c.ranges.y) (reduction_held (goal.at.returns c).After-reduction-reduction) tt in
    (reduced.is, size_below reduced tt, rw (c.reduction-reduction.ensures.1, d_is (goal.at.returns c).Start))

pub reduction-reduction-requires : goal.reduction-reduction-requires
reduction-reduction-requires c = (c.requires.0, c.requires.1, rw (d_is (goal.at.reduction-reduction-requires c).Start) c.requires.2)

pub overflow_cast-result : goal.overflow_cast-result
overflow_cast-result c = wide_fits c.ranges.y

pub overflow_sub-result : goal.overflow_sub-result
overflow_sub-result c = difference_fits (wide c.ranges.y) (reduction_held (goal.at.overflow_sub-result c).After-reduction-reduction) tt
