-- `tables::b_at` meets its contract. Assumes nothing.
use lib.Dec.{lit<}
use Rattle.tables.specs.Figures.{b_at, b_half}
use Rattle.tables.proofs.Parts.{table_within}
use Rattle.tables.proofs.Ranges.{b_between}
use Rattle.tables.proofs.Answers.{value_in, half_in, value_asks}
use Rattle.tables.proofs.b_at.Goals as goal

pub returns : goal.returns
unfolding b_at b_half
returns c =
    let p = c.args.sheet.known in
    let e = value_in c.table.ensures 0 _ c.value_by.ensures.0 in
    (e, rw e (b_between _ p.passes _ (table_within _ _ _ c.requires)), half_in c.table.ensures 0 _ c.value_by.ensures.1)

pub value_by-requires : goal.value_by-requires
value_by-requires c = value_asks c.table.ensures (lit< tt) c.requires
