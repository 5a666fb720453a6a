-- `rules::rise` meets its contract. Assumes nothing.
use mathlib.Core.Path.{◌≡◌, sym, ap, ◌∙◌}
use Prim.Native.Nat.{ℕ}
use native.Mathlib.Omega.{arith}
use lib.IntN.{ℤ, pos, ◌-ℤ◌, -ℤ-+ℤ_cancel}
use mir.Syntax.{w64}
use mir.Facts.{to_z-of_z}
use Rattle.rounding.specs.Between.{lowered}
use Rattle.rounding.proofs.Raised.{raised_height}
use Rattle.rounding.proofs.Holds.{Holds, held_size, difference, difference_fits}
use Rattle.rules.proofs.rise.Goals as goal
use Rattle.rules.proofs.rise.Goals.{After-raised-2}

-- what both are raised by goes out
raised_rise : (n r : ℕ) → pos n -ℤ pos r ≡ lowered n -ℤ lowered r
unfolding lowered
raised_rise n r = ap (λ (z : ℤ). z -ℤ pos r) (sym (-ℤ-+ℤ_cancel (pos n) (pos 2_147_483_648))) ∙ raised_height r (lowered n)

module _ (c : After-raised-2) where
  next : Holds w64 c.raised.result (pos c.raised.result) 4_294_967_295
  next = held_size w64 (omega (arith, c.raised.ensures.1)) tt

  x : Holds w64 c.raised-2.result (pos c.raised-2.result) 4_294_967_295
  x = held_size w64 (omega (arith, c.raised-2.ensures.1)) tt

  next_is : lowered c.raised.result ≡ c.args.next
  next_is = c.raised.ensures.0 ∙ to_z-of_z c.ranges.next

  x_is : lowered c.raised-2.result ≡ c.args.x
  x_is = c.raised-2.ensures.0 ∙ to_z-of_z c.ranges.x

pub returns : goal.returns
returns c = (difference (next c) (x c) tt).is ∙ raised_rise c.raised.result c.raised-2.result ∙ rw (next_is c, x_is c)

pub overflow_sub-result : goal.overflow_sub-result
overflow_sub-result c = difference_fits (next c) (x c) tt
