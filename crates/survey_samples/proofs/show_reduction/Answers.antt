-- `survey_samples::show_reduction` meets its contract. Assumes nothing.
use mathlib.Core.Path.{◌≡◌}
use Prim.Native.Nat.{◌≤◌}
use native.Mathlib.Nat.{le_trans}
use lib.Dec.{lit≤}
use mir.Syntax.{w64}
use mir.Val.{to_z, of_z}
use Rattle.rounding.specs.Ranges.{most_x}
use Rattle.extent.proofs.Reach.{easting_span}
use borrow.Author.Rules.{rules}
use Rattle.survey_samples.proofs.show_reduction.Goals as goal

-- the step, and the whole, are worked from P and d as they were read
pub reduction-requires : goal.reduction-requires
reduction-requires c =
    let d-is : to_z w64 (of_z w64 c.for_reduction-read.result.d.value) ≡ c.for_reduction-read.result.d.value = search rules in
    let x : c.args.x ≤ most_x = le_trans c.requires.0.most (le_trans (easting_span _ c.args.sheet.known.passes) (lit≤ tt)) in
    (c.for_reduction-read.ensures.1, x, rw d-is c.for_reduction-read.ensures.2)

pub reduced_of-requires : goal.reduced_of-requires
reduced_of-requires c =
    let x : c.args.x ≤ most_x = le_trans c.requires.0.most (le_trans (easting_span _ c.args.sheet.known.passes) (lit≤ tt)) in
    (c.for_reduction-read.ensures.1, x, c.for_reduction-read.ensures.2)
