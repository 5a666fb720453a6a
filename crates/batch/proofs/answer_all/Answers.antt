-- `batch::answer_all` meets its contract: after i turns the memory holds the words of the first i points, and then what it held. Assumes nothing.
use borrow.Author.Rules.{rules}
use mathlib.Core.Path.{◌≡◌, refl, ◌∙◌}
use native.Mathlib.Omega.{arith}
use Rattle.batch.specs.Batch.{pairs, words, answered}
use Rattle.batch.proofs.Turns.{written, counted, room}
use Rattle.batch.proofs.answer_all.Goals as goal

-- ---- what it answers

pub returns : goal.returns
returns c =
    let l = c.loop-i in
    let a = c.args in
    let e : l.i ≡ pairs a.points.now = omega arith in
    record { count = rw (← e) l.invariant.2; memory = rw (← e) l.invariant.1 }

-- ---- what its loop keeps
pub loop-i-init : goal.loop-i-init
unfolding words answered
loop-i-init c = (refl, refl, refl, search rules)

pub loop-i-preserved : goal.loop-i-preserved
loop-i-preserved c =
    let t = c.answer_one-count in
    let l = c.loop-i in
    let fits = room _ _ c.requires in (
      t.auto.answers ∙ l.invariant.0,
      t.ensures.2 ∙ rw l.invariant.1 (written c.args.sheet.bytes.now c.args.points.now c.args.answers.now l.i (omega (arith, fits.1))),
      rw (l.invariant.2, t.ensures.0) (counted c.args.sheet.bytes.now c.args.points.now l.i),
      omega (arith, t.ensures.1),
    )

-- ---- what its operations ask
pub answer_one-count-requires : goal.answer_one-count-requires
answer_one-count-requires c =
    let fits = room _ _ c.requires in
    (omega arith, omega (arith, fits.1))

pub overflow_add-count : goal.overflow_add-count
overflow_add-count c =
    let fits = room _ _ c.requires in
    record { fits = omega (arith, fits.0, c.answer_one-count.ensures.1, c.loop-i.invariant.3) }
