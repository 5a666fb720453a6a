-- `answering::answer_lines` meets its contract: each turn answers one line more. Assumes nothing.
use Rattle.std.proofs.Common.{arith, rules}
use Rattle.answering.proofs.Working.{one_more, finished}
use Rattle.answering.proofs.answer_lines.Goals as goal

pub loop-end-preserved : goal.loop-end-preserved
loop-end-preserved g c =
    let l = c.loop-end in
    let put = c.answer-next.ensures in
    let more = one_more l.invariant.0 c.requires.1 _ l.invariant.1 c.loop-end-test.true put.text put.place in
    (rw put.state more, c.line_end-end-in-loop-end.ensures.0, c.line_end-end-in-loop-end.ensures.1, search rules)

pub returns : goal.returns
returns g c =
    let l = c.loop-end in
    let done = finished l.invariant.0 c.requires.1 _ l.invariant.1 c.loop-end-test.false l.invariant.2 in
    record {
      place = (l.invariant.0.inside, omega (arith, done.fits, c.requires.2), done.rest);
      state = done.end_state;
      text = done.all;
    }
