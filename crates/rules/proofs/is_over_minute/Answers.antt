-- `rules::is_over_minute` meets its contract. Assumes nothing.
use mathlib.Core.Path.{◌≡◌, ◌∙◌}
use lib.IntN.{pos, ◌-ℤ◌, ◌*ℤ◌}
use mir.Syntax.{w32, w64}
use mir.Val.{of_z, to_z}
use mir.Facts.{to_z-of_z}
use Rattle.rounding.specs.Ranges.{most_scale}
use Rattle.rounding.proofs.Sizes.{difference_most}
use Rattle.rounding.proofs.Holds.{Holds, held, held_size, held_result, held_literal, size_i32, cast, cast_fits, difference, difference_fits, product, product_fits, renamed}
use Rattle.refusals.specs.Tests.{in_range}
use Rattle.rules.proofs.Sixties.{tested}
use Rattle.rules.proofs.is_over_minute.Goals as goal
use Rattle.rules.proofs.is_over_minute.Goals.{After-rise, Start}

d_held : (c : Start) → Holds w32 (of_z w32 c.args.d) c.args.d 2_147_483_648
d_held c = held c.ranges.d (size_i32 c.ranges.d)

sixties : (c : Start) → Holds w64 (of_z w64 (to_z w64 (of_z w64 (to_z w32 (of_z w32 c.args.d))) *ℤ pos 60)) (c.args.d *ℤ pos 60) 128_849_018_880
sixties c = product (cast (d_held c) {v = w64} tt) (held_literal w64 60 tt) tt

scale_held : (c : Start) → Holds w64 c.args.scale (pos c.args.scale) most_scale
scale_held c = held_size w64 c.requires.0 tt

rise_held : (c : After-rise) → Holds w64 (of_z w64 c.rise.result) (c.args.next -ℤ c.args.x) 4_294_967_296
rise_held c =
    let b = c in
    let up : c.rise.result ≡ b.args.next -ℤ b.args.x = c.rise.ensures ∙ rw (to_z-of_z b.ranges.next, to_z-of_z b.ranges.x) in
    renamed (held_result w64 c.rise.result c.rise.type_inv (rw up (difference_most b.args.next b.args.x (size_i32 b.ranges.next) (size_i32 b.ranges.x)))) up

scaled : (c : After-rise) → Holds w64 (of_z w64 (to_z w64 c.args.scale *ℤ to_z w64 (of_z w64 c.rise.result))) (pos c.args.scale *ℤ (c.args.next -ℤ c.args.x)) 4_294_967_296_000
scaled c = product (scale_held (goal.at.After-rise c).Start) (rise_held c) tt

pub returns : goal.returns
unfolding in_range
returns c =
    let b = (goal.at.returns c).Start in
    rw (difference (sixties b) (scaled c) tt).is (tested b.args.scale (b.args.next -ℤ b.args.x) b.args.d b.requires.1)

pub overflow_cast-off : goal.overflow_cast-off
overflow_cast-off c = cast_fits (d_held c) tt

pub overflow_mul-off : goal.overflow_mul-off
overflow_mul-off c = product_fits (cast (d_held c) {v = w64} tt) (held_literal w64 60 tt) tt

pub overflow_mul-off-2 : goal.overflow_mul-off-2
overflow_mul-off-2 c = product_fits (scale_held (goal.at.overflow_mul-off-2 c).Start) (rise_held c) tt

pub overflow_sub-off : goal.overflow_sub-off
overflow_sub-off c = difference_fits (sixties (goal.at.overflow_sub-off c).Start) (scaled c) tt
