-- `forward::y_of` meets its contract. Assumes nothing.
use mathlib.Core.Path.{◌≡◌, ◌∙◌}
use mir.Syntax.{w64}
use mir.Val.{to_z, of_z}
use Rattle.rounding.proofs.Holds.{Holds, sum, sum_fits}
use Rattle.steps.specs.Steps.{q_of, rise}
use Rattle.steps.proofs.StepBounds.{q_most, rise-most}
use Rattle.forward.specs.Forward.{worked_y, worked_y_half}
use borrow.Author.Rules.{rules}
use Rattle.forward.proofs.y_of.Goals as goal
use Rattle.forward.proofs.y_of.Goals.{After-rise-rise, Start}

c_is : (c : Start) → to_z w64 (of_z w64 c.args.f.c.value) ≡ c.args.f.c.value
c_is c = search rules

y0_is : (c : Start) → to_z w64 (of_z w64 c.args.f.y0.value) ≡ c.args.f.y0.value
y0_is c = search rules

pub rise-rise-requires : goal.rise-rise-requires
rise-rise-requires c =
    (c.requires.0, rw c.q_of-q.ensures.0 (q_most _ c.requires.3), rw (c_is (goal.at.rise-rise-requires c).Start) c.requires.1)

-- y0 and the rise, as they are added
y0_held : (c : Start) → Holds w64 (of_z w64 c.args.f.y0.value) c.args.f.y0.value 999_999_999
y0_held c = record { is = y0_is c; size = c.requires.2 }

rise_held : (c : After-rise-rise) → let a = c.args in Holds w64 (of_z w64 c.rise-rise.result.value) (rise a.f.v.value (q_of a.size) a.f.c.value) 504_200
rise_held c =
    let bits : to_z w64 (of_z w64 c.rise-rise.result.value) ≡ c.rise-rise.result.value = search rules in
    record {
      is = bits ∙ c.rise-rise.ensures.0 ∙ rw (c.q_of-q.ensures.0, c_is (goal.at.After-rise-rise c).Start);
      size = rise-most _ _ _ c.requires.0 (q_most _ c.requires.3) c.requires.1;
    }

pub returns : goal.returns
unfolding worked_y worked_y_half
returns c =
    let whole = sum (y0_held (goal.at.returns c).Start) (rise_held (goal.at.returns c).After-rise-rise) tt in
    (whole.is, rw whole.is whole.size, rw (c.rise-rise.ensures.1, c.q_of-q.ensures.1, c.q_of-q.ensures.0, c_is (goal.at.returns c).Start))

pub overflow_add-result : goal.overflow_add-result
overflow_add-result c = sum_fits (y0_held (goal.at.overflow_add-result c).Start) (rise_held (goal.at.overflow_add-result c).After-rise-rise) tt
