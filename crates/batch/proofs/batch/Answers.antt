-- `batch::batch` meets its contract: 17, the check's number, or every point answered. Assumes nothing.
use borrow.Author.Rules.{rules}
use mathlib.Core.Path.{refl, ap, ◌∙◌}
use Rattle.refusals.proofs.Numbers.{number-some}
use Rattle.refusals.proofs.Handed.{handed}
use Rattle.contents.specs.Contents.{number_of}
use Rattle.batch.specs.Batch.{batch_told}
use Rattle.refusals.proofs.Ladders.{kept}
use Rattle.batch.proofs.Turns.{refused_17, refused_check, all_answered}
use Rattle.batch.proofs.batch.Goals as goal

-- ---- what it answers

pub returns-then-not-is_taken : goal.returns-then-not-is_taken
returns-then-not-is_taken c =
    let both = refused_17 _ _ _ _ c.is_taken.ensures c.if-not-is_taken.true in
    record { answer = both.0; memory = both.1 }

pub returns-in_err-pass : goal.returns-in_err-pass
returns-in_err-pass c =
    let both = refused_check _ _ _ _ _ c.is_taken.ensures c.if-not-is_taken.false (ap number_of c.in_err-pass.ensures) (number-some _) in
    record { answer = handed batch_told _ _ c.from_residual.ensures.1 ∙ both.0; memory = both.1 }

pub returns : goal.returns
returns c =
    let same = c.in_ok-pass.ensures in
    let zero = rw same at c.in_ok-pass.field-0.known.passes in
    let both = all_answered _ _ _ _ _ _ _ c.is_taken.ensures c.if-not-is_taken.false refl zero (rw same at c.answer_all.ensures.count) (rw same at c.answer_all.ensures.memory) in
    record { answer = both.0; memory = both.1 }

-- ---- what its operations ask
pub is_taken-requires : goal.is_taken-requires
is_taken-requires c = search rules

pub answer_all-requires : goal.answer_all-requires
answer_all-requires c = kept _ _ c.is_taken.ensures c.if-not-is_taken.false
