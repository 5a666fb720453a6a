-- `forward::x_of` meets its contract. Assumes nothing.
use mathlib.Core.Path.{◌≡◌, ap, ◌∙◌}
use native.Mathlib.Nat.{lt_of_le_of_lt}
use lib.Dec.{lit<}
use lib.IntN.{pos, nat_abs}
use mir.Syntax.{w64}
use mir.Val.{to_z, of_z}
use Rattle.rounding.specs.Nearest.{with_sign}
use Rattle.rounding.proofs.Sizes.{size_from, size_with_sign}
use Rattle.rounding.proofs.Holds.{Holds, held, sum, sum_fits}
use Rattle.rounding.proofs.Bits.{bits_hold}
use Rattle.steps.specs.Steps.{size_of_x}
use Rattle.tables.proofs.Answers.{read_signed, read_signed_is}
use Rattle.forward.specs.Forward.{worked_x, worked_x_half}
use Rattle.forward.proofs.Eastings.{size_most, x_asks}
use borrow.Author.Rules.{rules}
use Rattle.forward.proofs.x_of.Goals as goal
use Rattle.forward.proofs.x_of.Goals.{After-size, After-size_of_x-x, After-with_sign, Start}

-- L, a and b, from their bits
module _ (c : Start) where
  l_is : to_z w64 (of_z w64 c.args.l) ≡ c.args.l
  l_is = search rules

  a_is : to_z w64 (of_z w64 c.args.f.a.value) ≡ c.args.f.a.value
  a_is = search rules

  b_is : to_z w64 (of_z w64 c.args.f.b.value) ≡ c.args.f.b.value
  b_is = search rules

size_is : (c : After-size) → c.size.result ≡ nat_abs c.args.l
size_is c = c.size.ensures ∙ ap nat_abs (l_is (goal.at.After-size c).Start)

pub size_of_x-x-requires : goal.size_of_x-x-requires
size_of_x-x-requires c = x_asks _ _ _ c.requires (size_is (goal.at.size_of_x-x-requires c).After-size) (a_is (goal.at.size_of_x-x-requires c).Start) (b_is (goal.at.size_of_x-x-requires c).Start)

-- the size of x', and x', as they were worked
x_is : (c : After-size_of_x-x) → let a = c.args in pos c.size_of_x-x.result.value ≡ size_of_x a.f.h.value (nat_abs a.l) a.f.a.value a.f.b.value
x_is c =
    c.size_of_x-x.ensures.0 ∙ rw (size_is (goal.at.After-size_of_x-x c).After-size, a_is (goal.at.After-size_of_x-x c).Start, b_is (goal.at.After-size_of_x-x c).Start)

size_held : (c : After-size_of_x-x)
    → let a = c.args in
    Holds w64 c.size_of_x-x.result.value (size_of_x a.f.h.value (nat_abs a.l) a.f.a.value a.f.b.value) 61_204_000
size_held c =
    let most = size_most _ _ _ c.requires in
    record { is = (read_signed_is (x_is c) (size_from (x_is c) most) tt).0; size = most }

x_held : (c : After-with_sign)
    → let a = c.args in
    Holds w64 (of_z w64 c.with_sign.result) (with_sign a.l (size_of_x a.f.h.value (nat_abs a.l) a.f.a.value a.f.b.value)) 61_204_000
x_held c =
    bits_hold c.with_sign.type_inv (c.with_sign.ensures ∙ rw (l_is (goal.at.After-with_sign c).Start, (size_held (goal.at.After-with_sign c).After-size_of_x-x).is)) (rw size_with_sign (size_held (goal.at.After-with_sign c).After-size_of_x-x).size)

easting_held : (c : Start) → Holds w64 (of_z w64 c.args.easting) c.args.easting 100_000_000
easting_held c = held c.ranges.easting c.requires.easting-most

pub returns : goal.returns
unfolding worked_x worked_x_half
returns c =
    let whole = sum (x_held (goal.at.returns c).After-with_sign) (easting_held (goal.at.returns c).Start) tt in
    (whole.is, rw whole.is whole.size, rw (c.size_of_x-x.ensures.1, size_is (goal.at.returns c).After-size, a_is (goal.at.returns c).Start, b_is (goal.at.returns c).Start))

pub size-requires : goal.size-requires
size-requires c = rw (l_is c) (lt_of_le_of_lt c.requires.l_most (lit< tt))

pub overflow_cast-x : goal.overflow_cast-x
overflow_cast-x c = read_signed (x_is (goal.at.overflow_cast-x c).After-size_of_x-x) (size_from (x_is (goal.at.overflow_cast-x c).After-size_of_x-x) (size_held (goal.at.overflow_cast-x c).After-size_of_x-x).size) tt

pub with_sign-requires : goal.with_sign-requires
with_sign-requires c = rw (size_held (goal.at.with_sign-requires c).After-size_of_x-x).is (lt_of_le_of_lt (size_held (goal.at.with_sign-requires c).After-size_of_x-x).size (lit< tt))

pub overflow_add-result : goal.overflow_add-result
overflow_add-result c = sum_fits (x_held c) (easting_held (goal.at.overflow_add-result c).Start) tt
