-- `rounding::nearest` meets its contract. Assumes nothing.
use native.Mathlib.Omega.{arith}
use mathlib.Core.Path.{◌≡◌}
use lib.IntN.{pos, nat_abs}
use mir.Syntax.{w64}
use mir.Facts.{to_z-of_z}
use borrow.Author.Rules.{sfits_of}
use Rattle.rounding.specs.Nearest.{nearest, on_half}
use Rattle.rounding.specs.Ranges.{most_numerator}
use Rattle.rounding.proofs.Holds.{Holds, held, held_size, size_below}
use Rattle.rounding.proofs.Rounding.{nearest_size_le}
use Rattle.rounding.proofs.nearest.Goals as goal
use Rattle.rounding.proofs.nearest.Goals.{After-nearest_size-r, After-size}

-- what `size` answered, and the size of what `nearest_size` did
size_is : (c : After-size) → c.size.result ≡ nat_abs c.args.n
size_is c = rw (to_z-of_z c.ranges.n) at c.size.ensures

quotient : (c : After-nearest_size-r) → Holds w64 c.nearest_size-r.result.value (pos c.nearest_size-r.result.value) most_numerator
quotient c =
    let n = c.size.result in
    held_size w64
    (omega (arith, c.nearest_size-r.ensures.0, size_is c.before, nearest_size_le n c.args.d c.requires.1))
    tt

pub size-requires : goal.size-requires
size-requires c = size_below (held c.ranges.n c.requires.0) tt

pub nearest_size-r-requires : goal.nearest_size-r-requires
nearest_size-r-requires c = (omega (arith, size_is c), omega arith, omega arith)

pub overflow_cast-r : goal.overflow_cast-r
overflow_cast-r c = omega (arith, (quotient c.before).size)

pub with_sign-requires : goal.with_sign-requires
with_sign-requires c = size_below (quotient c.before) tt

pub returns : goal.returns
unfolding nearest on_half
returns c =
    let worked = c.before.before in
    let start = worked.before.before in
    let whole = rw (to_z-of_z start.ranges.n, (quotient worked).is) at c.with_sign.ensures in (
      cc (to_z-of_z (sfits_of c.with_sign.type_inv), whole, size_is worked.before, worked.nearest_size-r.ensures.0),
      cc (size_is worked.before, worked.nearest_size-r.ensures.1),
    )
