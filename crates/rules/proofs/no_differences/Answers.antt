-- `rules::no_differences` meets its contract. Assumes nothing.
use mathlib.Core.Path.{refl}
use Rattle.rules.specs.Latitude.{no_differences}
use Rattle.rules.proofs.no_differences.Goals as goal

pub returns : goal.returns
unfolding no_differences
returns c = refl
