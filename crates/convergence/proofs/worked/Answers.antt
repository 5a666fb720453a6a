-- `convergence::worked` meets its contract. Assumes nothing.
use mathlib.Core.Path.{◌≡◌, ◌∙◌}
use mir.Syntax.{w64}
use mir.Val.{to_z, of_z}
use Rattle.rounding.proofs.Holds.{Holds, cast, cast_fits}
use Rattle.steps.specs.Steps.{convergence}
use Rattle.steps.proofs.StepBounds.{convergence-most}
use Rattle.convergence.specs.Grid.{worked_of}
use borrow.Author.Rules.{rules}
use Rattle.convergence.proofs.worked.Goals as goal
use Rattle.convergence.proofs.worked.Goals.{After-convergence-convergence, Start}

xp_is : (c : Start) → to_z w64 (of_z w64 c.args.xp) ≡ c.args.xp
xp_is c = search rules

-- k and Δα, as they are cast
k_held : (c : Start) → Holds w64 (of_z w64 c.args.f.k.value) c.args.f.k.value 10_010_000
k_held c = record { is = search rules; size = c.requires.1 }

alpha_held : (c : After-convergence-convergence) → let a = c.args in Holds w64 (of_z w64 c.convergence-convergence.result.value) (convergence a.f.m.value a.xp) 21_474_837
alpha_held c =
    let bits : to_z w64 (of_z w64 c.convergence-convergence.result.value) ≡ c.convergence-convergence.result.value = search rules in
    record { is = bits ∙ c.convergence-convergence.ensures.0 ∙ rw (xp_is (goal.at.After-convergence-convergence c).Start); size = convergence-most _ _ c.requires.0 c.requires.2 }

pub returns : goal.returns
unfolding worked_of
returns c =
    rw ((cast (alpha_held (goal.at.returns c).After-convergence-convergence) tt).is, (cast (k_held (goal.at.returns c).Start) tt).is, c.convergence-convergence.ensures.1, xp_is (goal.at.returns c).Start)

pub convergence-convergence-requires : goal.convergence-convergence-requires
convergence-convergence-requires c = (c.requires.0, rw (xp_is c) c.requires.2)

pub overflow_cast-result : goal.overflow_cast-result
overflow_cast-result c = cast_fits (alpha_held (goal.at.overflow_cast-result c).After-convergence-convergence) tt

pub overflow_cast-result-2 : goal.overflow_cast-result-2
overflow_cast-result-2 c = cast_fits (k_held (goal.at.overflow_cast-result-2 c).Start) tt
