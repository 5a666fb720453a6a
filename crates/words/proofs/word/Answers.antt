-- `words::word` meets its contract. Assumes nothing.
use mathlib.Core.Path.{sym, ap, ◌∙◌}
use mir.Facts.{to_z-of_z}
use mir.Syntax.{w32}
use Rattle.words.specs.Words.{signed32, word_at}
use Rattle.words.proofs.TwosComplement.{signed32_is}
use Rattle.words.proofs.word.Goals as goal

pub returns : goal.returns
unfolding word_at
returns c =
    to_z-of_z {w = w32} (record { sfits = c.cast_signed.type_inv })
    ∙ c.cast_signed.ensures
    ∙ sym (signed32_is c.unsigned_word.ensures.1)
    ∙ ap signed32 c.unsigned_word.ensures.0
