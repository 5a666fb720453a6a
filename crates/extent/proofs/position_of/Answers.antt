-- `extent::position_of` meets its contract. Assumes nothing.
use Rattle.tables.proofs.Answers.{placed_in}
use Rattle.extent.proofs.position_of.Goals as goal

pub position-requires : goal.position-requires
position-requires c = (placed_in c.table.ensures c.table.result.placed, c.requires.2, c.requires.3, c.requires.4)
