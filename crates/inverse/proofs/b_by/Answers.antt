-- `inverse::b_by` meets its contract. Assumes nothing.
use mathlib.Core.Path.{ap, ◌∙◌}
use Rattle.tables.specs.Figures.{b_at, b_half}
use Rattle.inverse.proofs.b_by.Goals as goal

pub returns : goal.returns
returns c =
    let at = c.position_of-at.ensures.1 in
    let b = c.b_at.ensures in
    (b.0 ∙ ap (b_at _) at, b.1, b.2 ∙ ap (b_half _) at)
