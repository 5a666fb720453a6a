-- `batch::is_taken` meets its contract. Assumes nothing.
use native.Mathlib.Omega.{arith}
use Rattle.batch.proofs.Turns.{odd, many, narrow}
use Rattle.batch.proofs.is_taken.Goals as goal

pub returns-then-words-ne0 : goal.returns-then-words-ne0
returns-then-words-ne0 c = odd _ _ c.if-words-ne0.true

pub returns-then-words-gt-MOST_POINTS : goal.returns-then-words-gt-MOST_POINTS
returns-then-words-gt-MOST_POINTS c = many _ _ c.if-words-gt-MOST_POINTS.true

pub returns : goal.returns
returns c = narrow _ _ (omega (arith, c.if-words-ne0.false)) (omega (arith, c.if-words-gt-MOST_POINTS.false))
