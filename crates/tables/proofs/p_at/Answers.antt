-- `tables::p_at` meets its contract. Assumes nothing.
use lib.Dec.{lit<}
use Rattle.tables.specs.Figures.{p_at, p_half}
use Rattle.tables.proofs.Parts.{table_within}
use Rattle.tables.proofs.Ranges.{p_between, p_rows}
use Rattle.tables.proofs.Answers.{read_is, read_high, value_in, half_in, size_asks}
use Rattle.tables.proofs.p_at.Goals as goal

pub returns : goal.returns
unfolding p_at p_half
returns c =
    let p = c.args.sheet.known in
    let h = p_between _ p.passes _ (table_within _ _ _ c.requires) in
    let e = value_in c.table.ensures 0 _ c.size_by.ensures.0 in
    (read_is e h, read_high e h, half_in c.table.ensures 0 _ c.size_by.ensures.1)

pub size_by-requires : goal.size_by-requires
size_by-requires c = size_asks c.table.ensures (lit< tt) c.requires (p_rows _ c.args.sheet.known.passes)
