-- `rounding::with_sign` meets its contract. Assumes nothing.
use native.Mathlib.Omega.{arith}
use native.Mathlib.Nat.{le_refl}
use mathlib.Core.Path.{sym, ◌∙◌}
use lib.IntN.{nat_abs}
use mir.Syntax.{w64}
use mir.Val.{of_z}
use Rattle.rounding.proofs.Holds.{Holds, held, minus_fits, minus, sign_taken, sign_left}
use Rattle.rounding.proofs.with_sign.Goals as goal
use Rattle.rounding.proofs.with_sign.Goals.{Start}

l : (c : Start) → Holds w64 (of_z w64 c.args.l) c.args.l (nat_abs c.args.l)
l c = held c.ranges.l (le_refl _)

size : (c : Start) → Holds w64 (of_z w64 c.args.size) c.args.size 9_223_372_036_854_775_807
size c = held c.ranges.size (omega arith)

pub overflow_sub-result : goal.overflow_sub-result
overflow_sub-result c = minus_fits (size c.before) tt

pub returns-then-l-lt0 : goal.returns-then-l-lt0
returns-then-l-lt0 c = (minus (size c.before) tt).is ∙ sym (sign_taken (l c.before) c.args.size c.if-l-lt0.true)

pub returns-else-l-lt0 : goal.returns-else-l-lt0
returns-else-l-lt0 c = (size c.before).is ∙ sym (sign_left (l c.before) c.args.size c.if-l-lt0.false)
