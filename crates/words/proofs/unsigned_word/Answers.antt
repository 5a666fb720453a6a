-- `words::unsigned_word` meets its contract. Assumes nothing.
use mathlib.Core.Path.{◌∙◌}
use native.Mathlib.Omega.{arith}
use Rattle.words.specs.Words.{unsigned_at}
use Rattle.words.proofs.unsigned_word.Goals as goal

pub returns : goal.returns
unfolding unsigned_at
returns c = (c.from_be_bytes.ensures ∙ omega arith, omega arith)
