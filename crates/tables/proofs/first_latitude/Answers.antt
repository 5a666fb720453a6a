-- `tables::first_latitude` meets its contract. Assumes nothing.
use mathlib.Core.Path.{◌≡◌, ap, ◌∙◌}
use lib.Dec.{lit<}
use mir.Syntax.{w64}
use mir.Val.{of_z}
use lib.IntN.{ℤ, pos, ◌*ℤ◌}
use Rattle.rounding.proofs.Holds.{Holds, held_result, held_literal, product, product_fits}
use Rattle.entries.specs.Layout.{latitude, one_minute}
use Rattle.tables.specs.Figures.{figure_of, first_latitude_of}
use Rattle.tables.proofs.Ranges.{latitude-some, minute_size, minute_sign, first_most}
use Rattle.tables.proofs.Answers.{figure_in, figure_asks}
use Rattle.tables.proofs.first_latitude.Goals as goal
use Rattle.tables.proofs.first_latitude.Goals.{After-figure_of}

-- the minute as it was read
read : (c : After-figure_of) → c.figure_of.result ≡ figure_of c.args.sheet.now latitude 0 0
read c = figure_in c.table_of.ensures 0 _ c.figure_of.ensures

minute : (c : After-figure_of) → Holds w64 (of_z w64 c.figure_of.result) c.figure_of.result 5_400
minute c = held_result w64 c.figure_of.result c.figure_of.type_inv (rw (read c) (minute_size _ c.requires.passes).high)

pub returns : goal.returns
unfolding first_latitude_of
returns c =
    let whole = product (minute c) (held_literal w64 one_minute tt) tt in
    let is = whole.is ∙ ap (λ (m : ℤ). m *ℤ pos one_minute) (read (goal.at.returns c).After-figure_of) in
    (is, rw is (first_most _ c.requires.passes))

pub figure_of-requires : goal.figure_of-requires
figure_of-requires c = figure_asks c.table_of.ensures (lit< tt) (latitude-some _ c.requires.passes) (minute_sign _ c.requires.passes)

pub overflow_mul-result : goal.overflow_mul-result
overflow_mul-result c = product_fits (minute c) (held_literal w64 one_minute tt) tt
