-- `reading::past_row` meets its contract. Assumes nothing.
use mathlib.Core.Path.{◌∙◌}
use Rattle.reading.specs.Tables.{past_row, past_row_half}
use Rattle.reading.proofs.Pairs.{next_word}
use Rattle.reading.proofs.past_row.Goals as goal

pub returns : goal.returns
unfolding past_row past_row_half
returns c =
    let a = c.args in
    let next = c.raised_word-2.ensures.0 ∙ next_word a.b.now a.w a.c a.at.row in
    let this = c.raised_word.ensures.0 in
    (c.between.ensures.0 ∙ rw (this, next), c.between.ensures.1 ∙ rw (this, next))
