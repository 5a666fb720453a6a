-- `inverse::d_by` meets its contract. Assumes nothing.
use mathlib.Core.Path.{ap, ◌∙◌}
use Rattle.tables.specs.Figures.{d_at, d_half}
use Rattle.inverse.proofs.d_by.Goals as goal

pub returns : goal.returns
returns c =
    let at = c.position_of-at.ensures.1 in
    let r = c.d_at.ensures in
    (r.0 ∙ ap (d_at _) at, r.1, r.2 ∙ ap (d_half _) at)
