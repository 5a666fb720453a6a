-- `correct::rewrite` meets its contract. Assumes nothing.
use Rattle.correct.proofs.Rewritten.{before_bounds, later-row, first_row}
use Rattle.correct.proofs.rewrite.Goals as goal

pub returns-then-r-gt0 : goal.returns-then-r-gt0
returns-then-r-gt0 c = search later-row

pub returns-else-r-gt0 : goal.returns-else-r-gt0
returns-else-r-gt0 c = search first_row

pub differences_of-before-requires : goal.differences_of-before-requires
differences_of-before-requires c = search before_bounds
