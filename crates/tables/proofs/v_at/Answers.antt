-- `tables::v_at` meets its contract. Assumes nothing.
use mathlib.Core.Path.{◌∙◌}
use lib.Dec.{lit<}
use Rattle.tables.specs.Figures.{v_at, v_half}
use Rattle.tables.proofs.Parts.{table_within}
use Rattle.tables.proofs.Ranges.{latitude_is, latitude-half_is, v_between, v_rows}
use Rattle.tables.proofs.Answers.{read_is, read_high, value_in, half_in, size_asks}
use Rattle.tables.proofs.v_at.Goals as goal

pub returns : goal.returns
unfolding v_at v_half
returns c =
    let p = c.args.sheet.known in
    let h = v_between _ p.passes _ (table_within _ _ _ c.requires) in
    let e = value_in c.table.ensures 5 _ c.size_by.ensures.0 ∙ latitude_is _ p.passes 5 _ in
    (read_is e h, read_high e h, half_in c.table.ensures 5 _ c.size_by.ensures.1 ∙ latitude-half_is _ p.passes 5 _)

pub size_by-requires : goal.size_by-requires
size_by-requires c = size_asks c.table.ensures (lit< tt) c.requires (v_rows _ c.args.sheet.known.passes)
