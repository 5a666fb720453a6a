-- `survey_samples::step_forward` meets its contract. Assumes nothing.
use mathlib.Core.Path.{◌≡◌}
use Prim.Native.Nat.{◌≤◌}
use mir.Syntax.{w64}
use mir.Val.{to_z, of_z}
use Rattle.rounding.specs.Ranges.{most_q}
use Rattle.steps.proofs.StepBounds.{q_most}
use borrow.Author.Rules.{rules}
use Rattle.survey_samples.proofs.step_forward.Goals as goal

pub rise-requires : goal.rise-requires
rise-requires c =
    let c-is : to_z w64 (of_z w64 c.args.c) ≡ c.args.c = search rules in
    let q : c.q_of-q.result.value ≤ most_q = rw c.q_of-q.ensures.0 (q_most _ c.requires.0) in
    (c.requires.2, q, rw c-is c.requires.5)
