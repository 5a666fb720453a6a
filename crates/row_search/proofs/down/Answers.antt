-- `row_search::down` meets its contract. The loop keeps to the n rows; `row` falls, and above row 0, since row 0 is not above z. Assumes nothing.
use native.Mathlib.Omega.{arith}
use mathlib.Core.Path.{◌≡◌, sym, subst, ◌∙◌}
use mathlib.Core.Bool.{true, false}
use Prim.Native.Nat.{ℕ, zero, suc, ◌≤◌}
use lib.Dec.{T}
use lib.IntN.{ℤ}
use lib.Signed.{le_z}
use mir.Facts.{to_z-of_z}
use Rattle.reading.specs.Tables.{column, NotNegative}
use Rattle.reading.proofs.Within.{row_within}
use Rattle.row_search.proofs.down.Goals as goal
use Rattle.row_search.proofs.down.Goals.{In-loop-row}

-- a row whose figure is above z is not row 0
not_first : (f : ℕ → ℤ) (z : ℤ) (row : ℕ) → le_z (f 0) z ≡ true → le_z (f row) z ≡ false → 1 ≤ row
not_first f z zero first above = absurd (subst T (sym first ∙ above) tt)
not_first f z (suc row) first above = omega arith

pub loop-row-init : goal.loop-row-init
loop-row-init c = c.requires.0

pub not_above-requires : goal.not_above-requires
unfolding NotNegative
not_above-requires c =
    (row_within c.args.b.now c.args.w c.args.c c.args.n c.requires.1 c.requires.2 c.loop-row.row c.loop-row.invariant, c.requires.3 c.loop-row.row c.loop-row.invariant)

-- the row of a turn is not row 0
above_first : (c : In-loop-row) → 1 ≤ c.loop-row.row
above_first c =
    let a = c.args in
    not_first (column a.b.now a.w a.c) a.z c.loop-row.row c.requires.4 (rw (to_z-of_z c.ranges.z) at (sym c.not_above.ensures ∙ c.loop-row-test.true))

pub overflow_sub-row : goal.overflow_sub-row
overflow_sub-row c = omega (arith, above_first c)

pub loop-row-smaller : goal.loop-row-smaller
loop-row-smaller c = omega (arith, above_first c)

pub loop-row-preserved : goal.loop-row-preserved
loop-row-preserved c = omega (arith, c.loop-row.invariant)

pub returns : goal.returns
returns c =
    (c.loop-row.invariant, rw (to_z-of_z c.ranges.z) at (sym c.not_above.ensures ∙ c.loop-row-test.false))
