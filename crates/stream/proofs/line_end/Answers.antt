use Rattle.std.proofs.Common.{◌∙◌, sym, arith}
use Rattle.stream.proofs.GoingOn.{past_all}
use Rattle.stream.proofs.line_end.Goals as goal

pub loop-i-preserved : goal.loop-i-preserved
loop-i-preserved c = (omega arith, past_all c.args.buffer.now c.args.to c.requires.1 c.loop-i.i 8 (omega arith) (sym c.eight_go_on.ensures ∙ c.if-eight_go_on.true) ∙ c.loop-i.invariant.1)
