-- `tables::false_easting` meets its contract. Assumes nothing.
use lib.Dec.{lit<}
use Rattle.tables.specs.Figures.{false_easting_of}
use Rattle.tables.proofs.Ranges.{zone-some, easting_sign, easting_size}
use Rattle.tables.proofs.Answers.{signed_is, figure_in, figure_asks}
use Rattle.tables.proofs.false_easting.Goals as goal

pub returns : goal.returns
unfolding false_easting_of
returns c = signed_is c.figure_of.type_inv (figure_in c.table_of.ensures 1 _ c.figure_of.ensures) (easting_size _ c.requires.passes).high

pub figure_of-requires : goal.figure_of-requires
figure_of-requires c = figure_asks c.table_of.ensures (lit< tt) (zone-some _ c.requires.passes) (easting_sign _ c.requires.passes)
