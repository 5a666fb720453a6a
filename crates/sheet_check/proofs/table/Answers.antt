-- `sheet_check::table` meets its contract. Assumes nothing.
use mathlib.Core.Path.{refl}
use Prim.Native.Nat.{◌<◌}
use native.Mathlib.Omega.{arith}
use native.Mathlib.Nat.{sub-zero}
use Rattle.refusals.proofs.Numbers.{number-some}
use Rattle.refusals.proofs.FirstFault.{on, here, end}
use Rattle.sheet_check.proofs.table.Goals as goal

pub returns-in-Err : goal.returns-in-Err
returns-in-Err c =
    let i : c.loop-i.i < c.args.n = omega arith in
    here _ _ _ c.loop-i.invariant i c.in-Err.ensures (number-some _)

pub returns : goal.returns
returns c = search end

pub loop-i-init : goal.loop-i-init
loop-i-init c = rw sub-zero

pub loop-i-preserved : goal.loop-i-preserved
loop-i-preserved c =
    let i : c.loop-i.i < c.args.n = omega arith in
    on _ _ _ c.loop-i.invariant i c.in_default.ensures refl
