-- `differing::differs_at` meets its contract. Assumes nothing.
use mathlib.Core.Path.{◌≡◌}
use native.Mathlib.Omega.{arith}
use mir.Syntax.{w32}
use mir.Val.{to_z, of_z}
use Rattle.contents.proofs.Cut.{rows_there}
use Rattle.tables.proofs.Parts.{place_rows}
use Rattle.tables.proofs.Answers.{body_in, placed_in}
use Rattle.differing.proofs.OneRow.{of_sheets}
use borrow.Author.Rules.{rules}
use Rattle.differing.proofs.differs_at.Goals as goal

pub differs_in-requires : goal.differs_in-requires
differs_in-requires c =
    let old = placed_in c.table-b.ensures c.table-b.result.placed in
    let new = placed_in c.table-c.ensures c.table-c.result.placed in (
      rows_there _ _ _ old,
      omega (arith, rw c.table-b.ensures.1 at c.body.ensures.1),
      rows_there _ _ _ new,
      omega (arith, rw c.table-c.ensures.1 at c.body-2.ensures.1),
    )

pub returns : goal.returns
returns c =
    let old = placed_in c.table-b.ensures c.table-b.result.placed in
    let new = placed_in c.table-c.ensures c.table-c.result.placed in
    let same : to_z w32 (of_z w32 c.args.minute) ≡ c.args.minute = search rules in
    of_sheets _ _ _ _ _ _ _ _ _ (body_in c.table-b.ensures c.body.ensures.0) (place_rows _ _ _ old) (body_in c.table-c.ensures c.body-2.ensures.0) (place_rows _ _ _ new) same c.differs_in.ensures
