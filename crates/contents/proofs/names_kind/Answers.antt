-- `contents::names_kind` meets its contract. Assumes nothing.
use mathlib.Core.Path.{◌∙◌}
use Rattle.contents.proofs.names_kind.Goals as goal

pub returns : goal.returns
returns c = c.is_within.ensures ∙ rw c.kind_at.ensures.0
