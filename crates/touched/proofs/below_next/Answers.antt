-- `touched::below_next` meets its contract. Assumes nothing.
use mathlib.Core.Path.{◌≡◌}
use Prim.Native.Nat.{◌+◌, ◌<◌, ◌≤◌}
use native.Mathlib.Omega.{arith}
use mir.Syntax.{w64}
use mir.Val.{to_z, of_z}
use Rattle.rounding.proofs.Holds.{held_literal, sum, sum_fits}
use Rattle.rules.specs.Latitude.{most_rise}
use Rattle.entries.specs.Layout.{latitude}
use Rattle.entries.specs.Entries.{rows_of}
use Rattle.extent.proofs.Counts.{count_is}
use Rattle.rounding.proofs.Bits.{bits_is}
use Rattle.touched.proofs.Beside.{below_is, to_greatest, next_fits, two_rows, y0_held}
use borrow.Author.Rules.{rules}
use Rattle.touched.proofs.below_next.Goals as goal
use Rattle.touched.proofs.below_next.Goals.{Else-r-sheet, Then-r-sheet}

-- the row after it is there, or it is the last
next_row : (c : Then-r-sheet) → let args = c.args in args.r + 1 < rows_of args.sheet.bytes.now latitude
next_row c = rw (count_is _ _ c.args.sheet.known) at c.if-r-sheet.true

last_row : (c : Else-r-sheet) → let args = c.args in rows_of args.sheet.bytes.now latitude ≤ args.r + 1
last_row c = rw (count_is _ _ c.args.sheet.known) at c.if-r-sheet.false

pub returns-then-r-sheet : goal.returns-then-r-sheet
returns-then-r-sheet c =
    let same : to_z w64 (of_z w64 c.args.reduced) ≡ c.args.reduced = search rules in
    below_is _ _ _ _ _ same _ (bits_is c.y0_of.type_inv) (next_row (goal.at.returns-then-r-sheet c).Then-r-sheet) c.y0_of.ensures.0

pub returns : goal.returns
returns c =
    let same : to_z w64 (of_z w64 c.args.reduced) ≡ c.args.reduced = search rules in
    to_greatest _ _ _ _ _ same (last_row (goal.at.returns c).Else-r-sheet) (sum (y0_held c.y0_of-2.type_inv c.y0_of-2.ensures) (held_literal w64 most_rise tt) tt).is

pub overflow_add-r : goal.overflow_add-r
overflow_add-r c = next_fits _ c.args.sheet.known.passes _ c.requires

pub y0_of-requires : goal.y0_of-requires
y0_of-requires c = next_row c

pub overflow_sub-r : goal.overflow_sub-r
overflow_sub-r c = omega (arith, two_rows _ c.args.sheet.known.passes, last_row c)

pub overflow_add-result : goal.overflow_add-result
overflow_add-result c = sum_fits (y0_held c.y0_of-2.type_inv c.y0_of-2.ensures) (held_literal w64 most_rise tt) tt
