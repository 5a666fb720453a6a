-- `touched::near_row` meets its contract. Assumes nothing.
use mathlib.Core.Path.{ap, ◌∙◌}
use Prim.Native.Nat.{ℕ}
use lib.Dec.{ltb}
use lib.IntN.{pos, nat_abs}
use mir.Syntax.{w64}
use Rattle.rounding.proofs.Holds.{Holds, held_literal, product, product_fits, difference, difference_fits, size_below}
use Rattle.entries.specs.Layout.{one_minute}
use Rattle.extent.proofs.Points.{wide, wide_fits}
use Rattle.touched.specs.Touched.{near_row}
use Rattle.touched.proofs.near_row.Goals as goal

-- a minute, in 0.001″
step : Holds w64 one_minute (pos one_minute) one_minute
step = held_literal w64 one_minute tt

pub returns : goal.returns
unfolding near_row
returns c =
    let f = c.ranges in
    ap (λ (n : ℕ). ltb n one_minute) (c.size.ensures ∙ ap nat_abs (difference (wide f.latitude) (product (wide f.minute) step tt) tt).is)

pub overflow_cast-latitude : goal.overflow_cast-latitude
overflow_cast-latitude c = wide_fits c.ranges.latitude

pub overflow_cast-minute : goal.overflow_cast-minute
overflow_cast-minute c = wide_fits c.ranges.minute

pub overflow_mul-minute : goal.overflow_mul-minute
overflow_mul-minute c = product_fits (wide c.ranges.minute) step tt

pub overflow_sub-latitude : goal.overflow_sub-latitude
overflow_sub-latitude c = difference_fits (wide c.ranges.latitude) (product (wide c.ranges.minute) step tt) tt

pub size-requires : goal.size-requires
size-requires c = size_below (difference (wide c.ranges.latitude) (product (wide c.ranges.minute) step tt) tt) tt
