-- `tables::central_meridian` meets its contract. Assumes nothing.
use lib.Dec.{lit<}
use Rattle.tables.specs.Figures.{central_meridian_of}
use Rattle.tables.proofs.Ranges.{zone-some, central_sign, central_size}
use Rattle.tables.proofs.Answers.{signed_is, figure_in, figure_asks}
use Rattle.tables.proofs.central_meridian.Goals as goal

pub returns : goal.returns
unfolding central_meridian_of
returns c = signed_is c.figure_of.type_inv (figure_in c.table_of.ensures 0 _ c.figure_of.ensures) (central_size _ c.requires.passes).high

pub figure_of-requires : goal.figure_of-requires
figure_of-requires c = figure_asks c.table_of.ensures (lit< tt) (zone-some _ c.requires.passes) (central_sign _ c.requires.passes)
