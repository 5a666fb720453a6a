-- `entries::form_named` meets its contract. Assumes nothing.
use mathlib.Core.Path.{refl}
use Rattle.entries.specs.Layout.{form_named}
use Rattle.entries.proofs.form_named.Goals as goal

pub returns : goal.returns
unfolding form_named
returns c = refl
