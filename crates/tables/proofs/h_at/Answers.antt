-- `tables::h_at` meets its contract. Assumes nothing.
use mathlib.Core.Path.{◌∙◌}
use lib.Dec.{lit<}
use Rattle.tables.specs.Figures.{h_at, h_half}
use Rattle.tables.proofs.Parts.{table_within}
use Rattle.tables.proofs.Ranges.{latitude_is, latitude-half_is, h_between, h_rows}
use Rattle.tables.proofs.Answers.{read_is, read_low, read_high, value_in, half_in, size_asks}
use Rattle.tables.proofs.h_at.Goals as goal

pub returns : goal.returns
unfolding h_at h_half
returns c =
    let p = c.args.sheet.known in
    let h = h_between _ p.passes _ (table_within _ _ _ c.requires) in
    let e = value_in c.table.ensures 3 _ c.size_by.ensures.0 ∙ latitude_is _ p.passes 3 _ in
    (read_is e h, read_low e h, read_high e h, half_in c.table.ensures 3 _ c.size_by.ensures.1 ∙ latitude-half_is _ p.passes 3 _)

pub size_by-requires : goal.size_by-requires
size_by-requires c = size_asks c.table.ensures (lit< tt) c.requires (h_rows _ c.args.sheet.known.passes)
