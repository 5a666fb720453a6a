-- `lines::answer` meets its contract. Assumes nothing.
use Rattle.lines.proofs.Answers.{text_of_lem}
use Rattle.lines.proofs.answer.Goals as goal

pub returns : goal.returns
returns c =
    (c.put_values.ensures.0, rw (text_of_lem _ _ _ _ c.line_of.ensures c.values_of-v.ensures) at c.put_values.ensures.1)
