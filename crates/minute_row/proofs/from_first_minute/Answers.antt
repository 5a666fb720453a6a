-- `minute_row::from_first_minute` meets its contract. Assumes nothing.
use mathlib.Core.Path.{ap, ◌∙◌}
use lib.IntN.{ℤ, ◌-ℤ◌}
use mir.Syntax.{w32, w64}
use mir.Val.{of_z}
use Rattle.rounding.proofs.Holds.{Holds, held, held_i32, size_i32, cast, cast_fits, difference, difference_fits}
use Rattle.minute_row.specs.MinuteRow.{from_first_minute}
use Rattle.minute_row.proofs.from_first_minute.Goals as goal
use Rattle.minute_row.proofs.from_first_minute.Goals.{After-word, Start}

minute : (c : Start) → Holds w32 (of_z w32 c.args.minute) c.args.minute 2_147_483_648
minute c = held c.ranges.minute (size_i32 c.ranges.minute)

-- the first row's, as it was read
first : (c : After-word) → Holds w32 (of_z w32 c.word.result) c.word.result 2_147_483_648
first c = held_i32 c.word.result c.word.type_inv

pub returns : goal.returns
unfolding from_first_minute
returns c = (difference {w = w64} (cast (minute (goal.at.returns c).Start) tt) (cast (first c) tt) tt).is ∙ ap (λ (z : ℤ). c.args.minute -ℤ z) c.word.ensures

pub overflow_cast-result : goal.overflow_cast-result
overflow_cast-result c = cast_fits (minute (goal.at.overflow_cast-result c).Start) tt

pub overflow_cast-result-2 : goal.overflow_cast-result-2
overflow_cast-result-2 c = cast_fits (first c) tt

pub overflow_sub-result : goal.overflow_sub-result
overflow_sub-result c = difference_fits (cast (minute (goal.at.overflow_sub-result c).Start) tt) (cast (first c) tt) tt
