-- `steps::convergence` meets its contract. Assumes nothing.
use lib.Dec.{lit<, lit≤}
use lib.IntN.{pos}
use mir.Syntax.{w64}
use mir.Val.{of_z}
use Rattle.steps.specs.Steps.{convergence, convergence_half}
use Rattle.rounding.specs.Ranges.{most_m, most_word}
use Rattle.rounding.proofs.Holds.{Holds, held, held_size, product_fits, product, size_most}
use Rattle.rounding.proofs.Rounding.{rounded}
use Rattle.rounding.proofs.Halves.{marked}
use Rattle.steps.proofs.convergence.Goals as goal
use Rattle.steps.proofs.convergence.Goals.{Start}

module _ (c : Start) where
  m : Holds w64 c.args.m (pos c.args.m) most_m
  m = held_size w64 c.requires.0 tt

  x : Holds w64 (of_z w64 c.args.x) c.args.x most_word
  x = held c.ranges.x c.requires.1

pub returns : goal.returns
unfolding convergence convergence_half
returns c =
    let whole = product (m c.before) (x c.before) tt in
    (rounded 100_000_000 whole c.nearest.ensures.0, marked 100_000_000 whole c.nearest.ensures.1)

pub overflow_mul-m : goal.overflow_mul-m
overflow_mul-m c = product_fits (m c) (x c) tt

pub nearest-requires : goal.nearest-requires
nearest-requires c = (size_most (product (m c) (x c) tt) tt, lit< tt, lit≤ tt)
