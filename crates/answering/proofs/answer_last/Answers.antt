-- `answering::answer_last` meets its contract. Assumes nothing.
use Rattle.answering.proofs.Ending.{closed}
use Rattle.answering.proofs.answer_last.Goals as goal

pub returns-clause-text : goal.returns-clause-text
returns-clause-text g c =
    let rest = c.answer_rest-r.ensures in
    closed _ _ _ _ _ _ _ _ _ rest.state rest.text c.close-at.ensures.1
