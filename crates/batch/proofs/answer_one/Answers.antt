-- `batch::answer_one` meets its contract. Assumes nothing.
use mathlib.Core.Path.{◌≡◌}
use Prim.Native.Nat.{◌+◌, ◌*◌}
use native.Mathlib.Omega.{arith}
use lib.IntN.{pos}
use lib.ListN.{get_or}
use mir.Syntax.{w32}
use mir.Val.{to_z, of_z}
use Rattle.refusals.proofs.Numbers.{number-most}
use Rattle.convert.proofs.Checked.{forward-passes}
use borrow.Author.Rules.{rules}
use Rattle.batch.proofs.answer_one.Goals as goal

pub put-requires : goal.put-requires
put-requires c = (omega (arith, c.requires.1), omega arith)

pub returns-in-Ok : goal.returns-in-Ok
returns-in-Ok c =
    let r = c.in-Ok.r in
    let a = c.args in
    let first : to_z w32 (of_z w32 (get_or a.points.now (2 * a.i) (pos 0))) ≡ get_or a.points.now (2 * a.i) (pos 0) = search rules in
    let second : to_z w32 (of_z w32 (get_or a.points.now (2 * a.i + 1) (pos 0))) ≡ get_or a.points.now (2 * a.i + 1) (pos 0) = search rules in
    let x : to_z w32 (of_z w32 r.x) ≡ r.x = search rules in
    let y : to_z w32 (of_z w32 r.y) ≡ r.y = search rules in
    let h = forward-passes _ _ _ _ c.args.sheet.known.passes (rw (first, second) at c.in-Ok.ensures) in
    (rw (← h) c.put.ensures.0, c.put.ensures.1, rw (← h) (rw (x, y) at c.put.ensures.2))

pub put-requires-in-Err : goal.put-requires-in-Err
put-requires-in-Err c = (omega (arith, c.requires.1), omega (arith, c.number.ensures, number-most c.in-Err.e))

pub returns-in-Err : goal.returns-in-Err
returns-in-Err c =
    let a = c.args in
    let first : to_z w32 (of_z w32 (get_or a.points.now (2 * a.i) (pos 0))) ≡ get_or a.points.now (2 * a.i) (pos 0) = search rules in
    let second : to_z w32 (of_z w32 (get_or a.points.now (2 * a.i + 1) (pos 0))) ≡ get_or a.points.now (2 * a.i + 1) (pos 0) = search rules in
    let h = forward-passes _ _ _ _ c.args.sheet.known.passes (rw (first, second) at c.in-Err.ensures) in
    (rw (← h) (rw c.number.ensures at c.put-in-Err.ensures.0), c.put-in-Err.ensures.1, rw (← h) (rw c.number.ensures at c.put-in-Err.ensures.2))
