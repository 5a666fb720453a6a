-- `answering::answer_rest` meets its contract. Assumes nothing.
use Rattle.answering.proofs.Ending.{none_after, none_answered, one_after, one_answered}
use Rattle.answering.proofs.answer_rest.Goals as goal

pub returns-then-n-eq0-clause-state : goal.returns-then-n-eq0-clause-state
returns-then-n-eq0-clause-state g c = none_after _ _ _ _ c.if-n-eq0.true

pub returns-then-n-eq0-clause-text : goal.returns-then-n-eq0-clause-text
returns-then-n-eq0-clause-text g c = none_answered _ _ _ _ _ c.if-n-eq0.true

pub returns-clause-state : goal.returns-clause-state
returns-clause-state g c = one_after _ _ _ _ c.requires.0 c.if-n-eq0.false _ c.answer.ensures.state

pub returns-clause-text : goal.returns-clause-text
returns-clause-text g c = one_answered _ _ _ _ c.requires.0 c.if-n-eq0.false _ _ _ c.answer.ensures.text
