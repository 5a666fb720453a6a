-- `words::raised_word` meets its contract. Assumes nothing.
use mathlib.Core.Path.{ap, ◌∙◌}
use native.Mathlib.Omega.{arith}
use Rattle.words.specs.Words.{signed32, word_at}
use Rattle.words.proofs.TwosComplement.{raised_lowered}
use Rattle.words.proofs.raised_word.Goals as goal

pub returns : goal.returns
unfolding word_at
returns c =
    let n = c.unsigned_word.result in
    (raised_lowered n c.unsigned_word.ensures.1 ∙ ap signed32 c.unsigned_word.ensures.0, omega arith)
