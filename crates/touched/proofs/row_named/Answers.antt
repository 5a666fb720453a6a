-- `touched::row_named` meets its contract. Assumes nothing.
use native.Mathlib.Omega.{arith}
use Rattle.contents.proofs.Cut.{rows_there}
use Rattle.tables.proofs.Answers.{placed_in}
use Rattle.touched.proofs.row_named.Goals as goal

pub named_row-requires : goal.named_row-requires
named_row-requires c =
    (rows_there _ _ _ (placed_in c.table-rows.ensures c.table-rows.result.placed), omega (arith, rw c.table-rows.ensures.1 at c.body.ensures.1))
