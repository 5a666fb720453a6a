-- `row_search::up` meets its contract. The loop keeps a row whose figure is not above z; the rows after it become fewer. Assumes nothing.
use native.Mathlib.Omega.{arith}
use mathlib.Core.Path.{sym, ◌∙◌}
use mathlib.Core.Bool.{true}
use Prim.Native.Nat.{◌+◌}
use mir.Syntax.{w64}
use mir.Val.{to_z, of_z}
use mir.Facts.{to_z-of_z}
use Rattle.rounding.proofs.Order.{above_of}
use Rattle.reading.specs.Tables.{column, NotNegative}
use Rattle.reading.proofs.Within.{row_within}
use Rattle.row_search.proofs.LastRow.{only-last}
use Rattle.row_search.proofs.up.Goals as goal

pub loop-row-init : goal.loop-row-init
loop-row-init c = (c.requires.0, rw (to_z-of_z c.ranges.z) c.requires.5)

pub overflow_add-row : goal.overflow_add-row
overflow_add-row c = omega (arith, c.loop-row.invariant.0)

pub overflow_add-row-in-loop-row : goal.overflow_add-row-in-loop-row
overflow_add-row-in-loop-row c = omega arith

pub not_above-requires : goal.not_above-requires
unfolding NotNegative
not_above-requires c =
    let row = c.loop-row.row in
    (row_within c.args.b.now c.args.w c.args.c c.args.n c.requires.1 c.requires.2 (row + 1) (omega arith), c.requires.3 (row + 1) (omega arith))

pub overflow_add-row-in-loop-row-2 : goal.overflow_add-row-in-loop-row-2
overflow_add-row-in-loop-row-2 c = omega arith

pub loop-row-smaller : goal.loop-row-smaller
loop-row-smaller c = omega arith

pub loop-row-preserved : goal.loop-row-preserved
loop-row-preserved c = (omega arith, sym c.not_above.ensures ∙ c.if-not_above.true)

pub returns-else-not_above : goal.returns-else-not_above
returns-else-not_above c =
    let a = c.args in
    let l = c.loop-row in
    let f = column a.b.now a.w a.c in
    let next = above_of (f (l.row + 1)) (to_z w64 (of_z w64 a.z)) (sym c.not_above.ensures ∙ c.if-not_above.false) in
    (rw (to_z-of_z c.ranges.z) at (only-last f (to_z w64 (of_z w64 a.z)) a.n l.row c.requires.4 l.invariant.0 l.invariant.1 (λ h. next)), l.invariant.0)

pub returns-after-loop-row : goal.returns-after-loop-row
returns-after-loop-row c =
    let a = c.args in
    let l = c.loop-row in
    let f = column a.b.now a.w a.c in
    (rw (to_z-of_z c.ranges.z) at (only-last f (to_z w64 (of_z w64 a.z)) a.n l.row c.requires.4 l.invariant.0 l.invariant.1 (λ h. absurd (omega arith))), l.invariant.0)
