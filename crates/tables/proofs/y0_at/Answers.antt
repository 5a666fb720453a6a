-- `tables::y0_at` meets its contract. Assumes nothing.
use mathlib.Core.Path.{◌∙◌}
use lib.Dec.{lit<}
use Rattle.tables.specs.Figures.{y0_at, y0_half}
use Rattle.tables.proofs.Parts.{table_within}
use Rattle.tables.proofs.Ranges.{latitude_is, latitude-half_is, y0_between, y0_rows}
use Rattle.tables.proofs.Answers.{read_small, value_in, half_in, size_asks}
use Rattle.tables.proofs.y0_at.Goals as goal

pub signed-requires : goal.signed-requires
unfolding y0_at
signed-requires c =
    let p = c.args.sheet.known in
    read_small (value_in c.table.ensures 1 _ c.size_by.ensures.0 ∙ latitude_is _ p.passes 1 _) (y0_between _ p.passes _ (table_within _ _ _ c.requires)) tt

pub returns : goal.returns
unfolding y0_at y0_half
returns c =
    let p = c.args.sheet.known in
    let read = c.size_by.ensures in
    let e = c.signed.ensures.0 ∙ value_in c.table.ensures 1 _ read.0 ∙ latitude_is _ p.passes 1 _ in
    (e, rw e (y0_between _ p.passes _ (table_within _ _ _ c.requires)).high, c.signed.ensures.1 ∙ half_in c.table.ensures 1 _ read.1 ∙ latitude-half_is _ p.passes 1 _)

pub size_by-requires : goal.size_by-requires
size_by-requires c = size_asks c.table.ensures (lit< tt) c.requires (y0_rows _ c.args.sheet.known.passes)
