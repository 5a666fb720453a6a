-- `tables::m_at` meets its contract. Assumes nothing.
use lib.Dec.{lit<}
use Rattle.tables.specs.Figures.{m_at, m_half}
use Rattle.tables.proofs.Parts.{table_within}
use Rattle.tables.proofs.Ranges.{m_between, m_rows}
use Rattle.tables.proofs.Answers.{read_is, read_high, value_in, half_in, size_asks}
use Rattle.tables.proofs.m_at.Goals as goal

pub returns : goal.returns
unfolding m_at m_half
returns c =
    let p = c.args.sheet.known in
    let h = m_between _ p.passes _ (table_within _ _ _ c.requires) in
    let e = value_in c.table.ensures 1 _ c.size_by.ensures.0 in
    (read_is e h, read_high e h, half_in c.table.ensures 1 _ c.size_by.ensures.1)

pub size_by-requires : goal.size_by-requires
size_by-requires c = size_asks c.table.ensures (lit< tt) c.requires (m_rows _ c.args.sheet.known.passes)
