-- `inverse::p_by` meets its contract. Assumes nothing.
use mathlib.Core.Path.{ap, ◌∙◌}
use Rattle.tables.specs.Figures.{p_at, p_half}
use Rattle.inverse.proofs.p_by.Goals as goal

pub returns : goal.returns
returns c =
    let at = c.position_of-at.ensures.1 in
    let r = c.p_at.ensures in
    (r.0 ∙ ap (p_at _) at, r.1, r.2 ∙ ap (p_half _) at)
