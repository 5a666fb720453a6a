-- `tables::a_at` meets its contract. Assumes nothing.
use mathlib.Core.Path.{◌∙◌}
use lib.Dec.{lit<}
use Rattle.tables.specs.Figures.{a_at, a_half}
use Rattle.tables.proofs.Parts.{table_within}
use Rattle.tables.proofs.Ranges.{latitude_is, latitude-half_is, a_most}
use Rattle.tables.proofs.Answers.{value_in, half_in, value_asks}
use Rattle.tables.proofs.a_at.Goals as goal

pub returns : goal.returns
unfolding a_at a_half
returns c =
    let p = c.args.sheet.known in
    let e = value_in c.table.ensures 7 _ c.value_by.ensures.0 ∙ latitude_is _ p.passes 7 _ in
    (e, rw e (a_most _ p.passes _ (table_within _ _ _ c.requires)), half_in c.table.ensures 7 _ c.value_by.ensures.1 ∙ latitude-half_is _ p.passes 7 _)

pub value_by-requires : goal.value_by-requires
value_by-requires c = value_asks c.table.ensures (lit< tt) c.requires
