-- `tables::y0_of` meets its contract. Assumes nothing.
use lib.Dec.{lit<}
use Rattle.tables.specs.Figures.{y0_of}
use Rattle.tables.proofs.Ranges.{y0_sign, y0_size}
use Rattle.tables.proofs.Answers.{signed_is, figure_in, figure_asks}
use Rattle.tables.proofs.y0_of.Goals as goal

pub returns : goal.returns
unfolding y0_of
returns c = signed_is c.figure_of.type_inv (figure_in c.table.ensures 1 _ c.figure_of.ensures) (y0_size _ c.args.sheet.known.passes _ c.requires).high

pub figure_of-requires : goal.figure_of-requires
figure_of-requires c = figure_asks c.table.ensures (lit< tt) c.requires (y0_sign _ c.args.sheet.known.passes _ c.requires)
