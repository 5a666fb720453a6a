-- `tables::c_at` meets its contract. Assumes nothing.
use lib.Dec.{lit<}
use Rattle.tables.specs.Figures.{c_at, c_half}
use Rattle.tables.proofs.Parts.{table_within}
use Rattle.tables.proofs.Ranges.{c_between}
use Rattle.tables.proofs.Answers.{value_in, half_in, value_asks}
use Rattle.tables.proofs.c_at.Goals as goal

pub returns : goal.returns
unfolding c_at c_half
returns c =
    let p = c.args.sheet.known in
    let e = value_in c.table.ensures 1 _ c.value_by.ensures.0 in
    (e, rw e (c_between _ p.passes _ (table_within _ _ _ c.requires)), half_in c.table.ensures 1 _ c.value_by.ensures.1)

pub value_by-requires : goal.value_by-requires
value_by-requires c = value_asks c.table.ensures (lit< tt) c.requires
