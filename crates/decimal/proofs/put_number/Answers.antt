-- `decimal::put_number` meets its contract. Assumes nothing.
use mathlib.Core.Path.{◌≡◌, ◌∙◌}
use borrow.Author.Rules.{rules}
use native.Mathlib.Omega.{arith}
use mir.Syntax.{w32}
use mir.Val.{to_z, of_z}
use Rattle.decimal.proofs.Spelling.{after_minus, without_minus}
use Rattle.decimal.proofs.put_number.Goals as goal
use Rattle.decimal.proofs.put_number.Goals.{Start}

pub returns-then-v-lt0 : goal.returns-then-v-lt0
returns-then-v-lt0 c =
    let a = c.args in
    let put = c.put_size.ensures in
    let byte = c.put_byte-next.ensures in
    let v : to_z w32 (of_z w32 a.v) ≡ a.v = search rules in
    (omega (arith, put.0, byte.0), after_minus a.out.now _ a.at _ _ a.v _ _ (rw v at c.if-v-lt0.true) (c.from-size.ensures ∙ (rw v at c.unsigned_abs.ensures.value)) byte.1 put.1)

pub returns : goal.returns
returns c =
    let a = c.args in
    let put = c.put_size-2.ensures in
    let v : to_z w32 (of_z w32 a.v) ≡ a.v = search rules in
    (omega (arith, put.0), without_minus a.out.now _ a.at _ _ a.v (rw v at c.if-v-lt0.false) (c.from-size.ensures ∙ (rw v at c.unsigned_abs.ensures.value)) put.1)
