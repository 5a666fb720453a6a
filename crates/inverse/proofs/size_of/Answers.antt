-- `inverse::size_of` meets its contract. Assumes nothing.
use mathlib.Core.Path.{◌≡◌, ◌∙◌}
use native.Mathlib.Omega.{arith}
use lib.IntN.{pos}
use mir.Syntax.{w64}
use mir.Val.{to_z, of_z}
use Rattle.rounding.proofs.Sizes.{Size, size_from}
use Rattle.steps.proofs.StepBounds.{l_size_most}
use Rattle.tables.proofs.Answers.{read_signed, read_signed_is}
use Rattle.inverse.specs.Inverse.{size_by, size_by_half}
use borrow.Author.Rules.{rules}
use Rattle.inverse.proofs.size_of.Goals as goal
use Rattle.inverse.proofs.size_of.Goals.{After-size_of_l-l, Start}

-- a and b, from their bits
module _ (c : Start) where
  a_is : to_z w64 (of_z w64 c.args.f.a.value) ≡ c.args.f.a.value
  a_is = search rules

  b_is : to_z w64 (of_z w64 c.args.b.value) ≡ c.args.b.value
  b_is = search rules

pub size_of_l-l-requires : goal.size_of_l-l-requires
size_of_l-l-requires c =
    let p = c.requires in
    rw (a_is (goal.at.size_of_l-l-requires c).Start, b_is (goal.at.size_of_l-l-requires c).Start) (p.0, p.1, p.2, omega (arith, p.3), p.4, p.5)

-- the size of L, as it was worked
module _ (c : After-size_of_l-l) where
  abbrev start : Start
  start = (goal.at.After-size_of_l-l c).Start

  l_is : pos c.size_of_l-l.result.value ≡ size_by start.args.f start.args.b.value start.args.x
  unfolding size_by
  l_is = c.size_of_l-l.ensures.0 ∙ rw (a_is (goal.at.After-size_of_l-l c).Start, b_is (goal.at.After-size_of_l-l c).Start)

  l_between : Size 0 (size_by start.args.f start.args.b.value start.args.x) 900_040_000_000_000
  unfolding size_by
  l_between = let p = start.requires in size_from l_is (l_size_most _ _ _ _ p.0 p.1 p.2 (omega (arith, p.3)))

pub returns : goal.returns
unfolding size_by_half
returns c =
    ((read_signed_is (l_is (goal.at.returns c).After-size_of_l-l) (l_between (goal.at.returns c).After-size_of_l-l) tt).0, rw (c.size_of_l-l.ensures.1, a_is (start (goal.at.returns c).After-size_of_l-l), b_is (start (goal.at.returns c).After-size_of_l-l)))

pub overflow_cast-result : goal.overflow_cast-result
overflow_cast-result c = read_signed (l_is (goal.at.overflow_cast-result c).After-size_of_l-l) (l_between (goal.at.overflow_cast-result c).After-size_of_l-l) tt
