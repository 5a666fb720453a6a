-- `decimal::spell` meets its contract: with i digits left to store, those left give the memory that all of them give. Assumes nothing.
use borrow.Author.Rules.{rules}
use mathlib.Core.Path.{◌≡◌, refl, ◌∙◌}
use Prim.Native.Nat.{◌+◌, ◌-◌, ◌/◌, ◌%◌}
use native.Mathlib.Omega.{arith}
use lib.ListN.{set, length-set}
use Rattle.decimal.proofs.Spelling.{last-two_first, last-one_first, none_left}
use Rattle.decimal.proofs.spell.Goals as goal

-- ---- what it answers

pub returns-then-i-gt0 : goal.returns-then-i-gt0
returns-then-i-gt0 c =
    let l = c.loop-i in
    let e : l.i ≡ 1 = omega arith in
    last-one_first _ _ _ ∙ rw e at l.invariant.2

pub returns-else-i-gt0 : goal.returns-else-i-gt0
returns-else-i-gt0 c =
    let l = c.loop-i in
    let e : l.i ≡ 0 = omega arith in
    rw (e, none_left) at l.invariant.2

-- ---- what its loop keeps
pub loop-i-init : goal.loop-i-init
loop-i-init c = (search rules, refl, refl)

pub loop-i-preserved : goal.loop-i-preserved
loop-i-preserved c =
    let l = c.loop-i in
    let a = c.args in
    let e : l.i - 2 + 2 ≡ l.i = omega arith in
    let units = set l.out (a.at + (l.i - 2) + 1) (48 + l.rest % 100 % 10) in
    let u = length-set units (a.at + (l.i - 2)) (48 + l.rest % 100 / 10) in
    let t = length-set l.out (a.at + (l.i - 2) + 1) (48 + l.rest % 100 % 10) in
    (search rules, u ∙ t ∙ l.invariant.1, last-two_first l.out a.at (l.i - 2) l.rest ∙ rw e l.invariant.2)

-- ---- what its operations ask
pub overflow_sub-i : goal.overflow_sub-i
overflow_sub-i c = search rules

pub bounds-out-at-in-loop-i : goal.bounds-out-at-in-loop-i
bounds-out-at-in-loop-i c = simp length-set (omega arith)
