-- `writing::put_row` meets its contract. Assumes nothing.
use Rattle.writing.proofs.put_row.Goals as goal

pub returns : goal.returns
returns c = cc
