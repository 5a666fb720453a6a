-- `steps::per_second` meets its contract. Assumes nothing.
use borrow.Author.Rules.{rules}
use mathlib.Core.Path.{◌≡◌, ◌∙◌}
use lib.Dec.{lit<, lit≤}
use Prim.Native.Nat.{◌+◌}
use lib.IntN.{pos}
use mir.Syntax.{w64}
use mir.Val.{to_z, of_z}
use Rattle.steps.specs.Steps.{per_second}
use Rattle.rounding.specs.Ranges.{most_word, most_scale}
use Rattle.rounding.proofs.Holds.{Holds, held, held_size, product_fits, product, size_most}
use Rattle.rounding.proofs.Rounding.{rounded}
use Rattle.steps.proofs.per_second.Goals as goal
use Rattle.steps.proofs.per_second.Goals.{Start}

module _ (c : Start) where
  scale : Holds w64 c.args.scale (pos c.args.scale) most_scale
  scale = held_size w64 c.requires.0 tt

  difference : Holds w64 (of_z w64 c.args.difference) c.args.difference (most_word + most_word)
  difference = held c.ranges.difference c.requires.1

pub returns : goal.returns
unfolding per_second
returns c =
    let start = c.before.before in
    let value : to_z w64 (of_z w64 c.nearest.result.value) ≡ c.nearest.result.value = search rules in
    value ∙ rounded 60 (product (scale start) (difference start) tt) c.nearest.ensures.0

pub overflow_mul-scale : goal.overflow_mul-scale
overflow_mul-scale c = product_fits (scale c) (difference c) tt

pub nearest-requires : goal.nearest-requires
nearest-requires c = (size_most (product (scale c) (difference c) tt) tt, lit< tt, lit≤ tt)
