-- `sheet_check::latitude` meets its contract. Assumes nothing.
use Prim.Native.Nat.{◌≤◌, ◌<◌, ◌+◌, ◌-◌}
use mathlib.Core.Path.{◌≡◌, refl}
use native.Mathlib.Omega.{arith}
use borrow.Author.Rules.{rules}
use native.Mathlib.Nat.{sub-zero}
use Rattle.refusals.proofs.Numbers.{number-some}
use Rattle.refusals.proofs.FirstFault.{on, here, end}
use Rattle.latitude_rows.proofs.RowFaults.{pair_is, last_is}
use Rattle.sheet_check.proofs.latitude.Goals as goal

pub returns-in-Err : goal.returns-in-Err
returns-in-Err c =
    let l = c.loop-i in
    let i : l.i < c.args.n = omega arith in
    let next : l.i + 1 < c.args.n = omega arith in
    here _ _ _ l.invariant.1 i (pair_is _ _ _ _ _ l.invariant.0 _ c.row_at-next.ensures next c.in-Err.ensures) (number-some _)

pub returns-in-Err-last_latitude_row : goal.returns-in-Err-last_latitude_row
returns-in-Err-last_latitude_row c =
    let l = c.loop-i in
    let i : l.i < c.args.n = omega arith in
    let last : c.args.n ≤ l.i + 1 = omega arith in
    let place : c.args.n - 1 ≡ l.i = omega arith in
    rw place (here _ _ _ l.invariant.1 i (last_is _ _ _ _ _ l.invariant.0 last c.in-Err-last_latitude_row.ensures) (number-some _))

pub returns : goal.returns
returns c =
    let l = c.loop-i in
    let i : l.i < c.args.n = omega arith in
    let last : c.args.n ≤ l.i + 1 = omega arith in
    end _ _ _ (on _ _ _ l.invariant.1 i (last_is _ _ _ _ _ l.invariant.0 last c.in_default-last_latitude_row.ensures) refl) last

pub loop-i-init : goal.loop-i-init
loop-i-init c = (c.row_at-row.ensures, rw sub-zero)

pub loop-i-preserved : goal.loop-i-preserved
loop-i-preserved c =
    let l = c.loop-i in
    let i : l.i < c.args.n = omega arith in
    let next : l.i + 1 < c.args.n = omega arith in
    (search rules, on _ _ _ l.invariant.1 i (pair_is _ _ _ _ _ l.invariant.0 _ c.row_at-next.ensures next c.in_default.ensures) refl)
