-- `entries::Contents::named_before` meets its contract. Assumes nothing.
use mathlib.Core.Path.{◌∙◌}
use Rattle.entries.proofs.Contents.named_before.Goals as goal

pub returns : goal.returns
returns c = c.is_named.ensures ∙ rw c.kind_at.ensures.0
