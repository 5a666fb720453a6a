-- `small_rows::longitude_at` meets its contract. Assumes nothing.
use Rattle.small_rows.proofs.AsGiven.{read}
use Rattle.small_rows.proofs.longitude_at.Goals as goal

pub returns : goal.returns
returns c = rw (read c.word.type_inv c.word.ensures, read c.word-2.type_inv c.word-2.ensures)
