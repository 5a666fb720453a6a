-- `contents::is_within` meets its contract. Assumes nothing.
use mathlib.Core.Path.{refl}
use Rattle.contents.specs.Contents.{within}
use Rattle.contents.proofs.is_within.Goals as goal

pub returns : goal.returns
unfolding within
returns c = refl
