-- `correct::correct_body` meets its contract. Assumes nothing.
use mathlib.Core.Path.{◌≡◌, refl, ap, ◌∙◌}
use Prim.Native.Nat.{ℕ}
use mir.Syntax.{w32}
use mir.Val.{to_z, of_z}
use Rattle.refusals.proofs.Numbers.{number-some}
use Rattle.judge.specs.Judge.{bound_before, bound_after}
use Rattle.correct.proofs.Judged.{refused-stays, accepted_keeps, accepted_writes}
use borrow.Author.Rules.{rules}
use Rattle.correct.proofs.correct_body.Goals as goal

pub returns-in_err-r-clause-memory : goal.returns-in_err-r-clause-memory
returns-in_err-r-clause-memory c =
    let same : to_z w32 (of_z w32 c.args.minute) ≡ c.args.minute = search rules in
    refused-stays _ _ _ _ _ (rw same at c.in_err-r.ensures.number) (number-some _)

pub rewrite-requires : goal.rewrite-requires
rewrite-requires c =
    let same : to_z w32 (of_z w32 c.args.minute) ≡ c.args.minute = search rules in
    let k = accepted_keeps _ _ _ _ _ (rw same at c.in_ok-r.ensures.number) refl in
    let named = rw same at c.in_ok-r.ensures.row.0 in
    let before = ap (λ (r : ℕ). bound_before c.args.b.now r c.args.f) named ∙ k.before in
    let after = ap (λ (r : ℕ). bound_after c.args.b.now c.args.n r c.args.f) named ∙ k.after in
    (c.requires.1, c.in_ok-r.ensures.row.1, k.range, before, after)

pub returns-clause-memory : goal.returns-clause-memory
returns-clause-memory c =
    let same : to_z w32 (of_z w32 c.args.minute) ≡ c.args.minute = search rules in
    accepted_writes _ _ _ _ _ (rw same at c.in_ok-r.ensures.number) refl _ _ (rw same at c.in_ok-r.ensures.row.0) c.rewrite.ensures
