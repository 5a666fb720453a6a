-- `touched::above_prior` meets its contract. Assumes nothing.
use mathlib.Core.Path.{◌≡◌}
use native.Mathlib.Omega.{arith}
use mir.Syntax.{w64}
use mir.Val.{to_z, of_z}
use Rattle.rounding.proofs.Holds.{held_literal, difference, difference_fits}
use Rattle.rounding.proofs.Bits.{bits_is}
use Rattle.rules.specs.Latitude.{most_rise}
use Rattle.touched.proofs.Beside.{above_is, from-least, two_rows, y0_held}
use borrow.Author.Rules.{rules}
use Rattle.touched.proofs.above_prior.Goals as goal

pub returns-then-r-gt0 : goal.returns-then-r-gt0
returns-then-r-gt0 c =
    let same : to_z w64 (of_z w64 c.args.reduced) ≡ c.args.reduced = search rules in
    above_is _ _ _ _ _ same _ (bits_is c.y0_of.type_inv) c.if-r-gt0.true c.y0_of.ensures.0

pub returns : goal.returns
returns c =
    let same : to_z w64 (of_z w64 c.args.reduced) ≡ c.args.reduced = search rules in
    from-least _ _ _ _ _ same c.if-r-gt0.false (difference (y0_held c.y0_of-2.type_inv c.y0_of-2.ensures) (held_literal w64 most_rise tt) tt).is

pub y0_of-requires-2 : goal.y0_of-requires-2
y0_of-requires-2 c = omega (arith, two_rows _ c.args.sheet.known.passes, c.if-r-gt0.false)

pub overflow_sub-result : goal.overflow_sub-result
overflow_sub-result c = difference_fits (y0_held c.y0_of-2.type_inv c.y0_of-2.ensures) (held_literal w64 most_rise tt) tt
