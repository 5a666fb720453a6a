-- `contents::entries` meets its contract. Assumes nothing.
use mathlib.Core.Path.{refl}
use Prim.Native.Nat.{◌<◌}
use native.Mathlib.Omega.{arith}
use borrow.Author.Rules.{rules}
use native.Mathlib.Nat.{sub-zero}
use Rattle.refusals.proofs.Numbers.{number-some}
use Rattle.refusals.proofs.FirstFault.{on, here, end}
use Rattle.entries.specs.Entries.{due_at}
use Rattle.entries.proofs.Spans.{due_next}
use Rattle.contents.proofs.Limits.{fault-known}
use Rattle.contents.proofs.entries.Goals as goal

pub returns-in-Err : goal.returns-in-Err
returns-in-Err c =
    let i : c.loop-e.e < c.args.c.form.kinds = omega arith in
    here _ _ _ c.loop-e.invariant.2 i c.in-Err.ensures (number-some _)

pub returns : goal.returns
returns c = let there = c.args.c.there in search end

pub loop-e-init : goal.loop-e-init
unfolding due_at
loop-e-init c = (let there = c.args.c.there in search rules, omega arith, rw sub-zero)

pub span_at-due-requires : goal.span_at-due-requires
span_at-due-requires c = let there = c.args.c.there in search (fault-known, rules)

pub loop-e-preserved : goal.loop-e-preserved
loop-e-preserved c =
    let i : c.loop-e.e < c.args.c.form.kinds = omega arith in
    (let there = c.args.c.there in search due_next, omega arith, on _ _ _ c.loop-e.invariant.2 i c.in_default.ensures refl)
