-- `tables::k_at` meets its contract. Assumes nothing.
use mathlib.Core.Path.{◌∙◌}
use lib.Dec.{lit<}
use Rattle.tables.specs.Figures.{k_at, k_half}
use Rattle.tables.proofs.Parts.{table_within}
use Rattle.tables.proofs.Ranges.{k_between, k_rows}
use Rattle.tables.proofs.Answers.{read_small, value_in, half_in, size_asks}
use Rattle.tables.proofs.k_at.Goals as goal

pub signed-requires : goal.signed-requires
unfolding k_at
signed-requires c =
    let p = c.args.sheet.known in
    read_small (value_in c.table.ensures 0 _ c.size_by.ensures.0) (k_between _ p.passes _ (table_within _ _ _ c.requires)) tt

pub returns : goal.returns
unfolding k_at k_half
returns c =
    let p = c.args.sheet.known in
    let read = c.size_by.ensures in
    let e = c.signed.ensures.0 ∙ value_in c.table.ensures 0 _ read.0 in
    (e, rw e (k_between _ p.passes _ (table_within _ _ _ c.requires)).high, c.signed.ensures.1 ∙ half_in c.table.ensures 0 _ read.1)

pub size_by-requires : goal.size_by-requires
size_by-requires c = size_asks c.table.ensures (lit< tt) c.requires (k_rows _ c.args.sheet.known.passes)
