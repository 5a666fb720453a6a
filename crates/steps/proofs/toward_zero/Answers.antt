-- `steps::toward_zero` meets its contract. Assumes nothing.
use mathlib.Core.Path.{◌≡◌, sym, ap, ◌∙◌}
use mathlib.Core.Bool.{false}
use Prim.Native.Nat.{ℕ}
use mir.Syntax.{w64}
use mir.Val.{to_z, of_z}
use borrow.Author.Rules.{rules}
use lib.IntN.{pos}
use lib.Signed.{le_z}
use Rattle.rounding.specs.Ranges.{most_numerator}
use Rattle.steps.specs.Wide.{toward_zero}
use Rattle.rounding.proofs.Holds.{Holds, held, held_literal, sum_fits, sum}
use Rattle.steps.proofs.Splitting.{toward_up, toward_exact, toward_next}
use Rattle.steps.proofs.toward_zero.Goals as goal
use Rattle.steps.proofs.toward_zero.Goals.{Start}

t : (c : Start) → Holds w64 (of_z w64 c.args.t) c.args.t most_numerator
t c = held c.ranges.t c.requires

pub returns-then-t-ge0 : goal.returns-then-t-ge0
returns-then-t-ge0 c =
    let e = (t c.before).is in
    e ∙ sym (toward_up c.args.t c.args.e (rw e at c.if-t-ge0.true))

pub returns-then-e-eq0 : goal.returns-then-e-eq0
returns-then-e-eq0 c =
    let b = c.before.before in
    (t b).is ∙ sym (ap (λ (e : ℕ). toward_zero b.args.t e) c.if-e-eq0.true ∙ toward_exact b.args.t)

pub overflow_add-result : goal.overflow_add-result
overflow_add-result c = sum_fits (t c.before.before) (held_literal w64 1 tt) tt

pub returns : goal.returns
returns c =
    let b = c.before.before in
    let below : le_z (pos 0) (to_z w64 (of_z w64 b.args.t)) ≡ false = search rules in
    (sum (t b) (held_literal w64 1 tt) tt).is
    ∙ sym (toward_next b.args.t b.args.e (rw (t b).is at below) c.if-e-eq0.false)
