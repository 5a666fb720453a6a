-- `contents::rows_allowed` meets its contract. Assumes nothing.
use mathlib.Core.Path.{◌∙◌}
use Rattle.contents.proofs.rows_allowed.Goals as goal

pub returns : goal.returns
returns c = c.is_within.ensures ∙ rw (c.least_rows.ensures, c.rows_at.ensures.0, c.most_rows.ensures, c.kind_at-kind.ensures.0)
