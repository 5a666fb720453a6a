-- `tables::signed` meets its contract. Assumes nothing.
use mathlib.Core.Path.{refl}
use mir.Syntax.{w64}
use mir.Facts.{to_z_pos}
use Rattle.tables.proofs.signed.Goals as goal

pub returns : goal.returns
returns c = (to_z_pos w64 c.requires, refl)
