-- `reader::entry_at` meets its contract: none by the sheet's length, and the three words; then that each word is in the sheet. Assumes nothing.
use mathlib.Core.Path.{◌∙◌}
use native.Mathlib.Omega.{arith}
use Rattle.reader.proofs.Reading.{ends_at, entry_is}
use Rattle.reader.proofs.entry_at.Goals as goal

pub returns-in_err-last : goal.returns-in_err-last
returns-in_err-last c = c.from_residual.ensures ∙ ends_at _ _ (omega (arith, c.in_err-last.ensures))

pub returns-then-last-place : goal.returns-then-last-place
returns-then-last-place c = ends_at _ _ (omega arith)

pub returns : goal.returns
returns c = entry_is _ _ _ _ _ (omega arith) c.unsigned_word.ensures.0 c.unsigned_word-2.ensures.0 c.unsigned_word-3.ensures.0
