-- `reached::lower_minute` meets its contract. Assumes nothing.
use mathlib.Core.Path.{◌≡◌, ap, ◌∙◌}
use native.Mathlib.Omega.{arith}
use mir.Syntax.{w32}
use mir.Val.{SFits, to_z, of_z}
use lib.IntN.{nat_abs}
use Rattle.rounding.proofs.Holds.{size_below}
use Rattle.extent.proofs.Points.{wide, wide_fits}
use Rattle.reached.proofs.Asking.{minutes_most, forward_lower, inverse_lower, none_lower}
use borrow.Author.Rules.{rules}
use Rattle.reached.proofs.lower_minute.Goals as goal
use Rattle.reached.proofs.lower_minute.Goals.{Start}

first_fits : (c : Start) → SFits w32 c.args.l.first
first_fits c = search rules

pub overflow_cast-l : goal.overflow_cast-l
overflow_cast-l c = wide_fits (first_fits (goal.at.overflow_cast-l c).Start)

pub size-requires : goal.size-requires
size-requires c = size_below (wide (first_fits (goal.at.size-requires c).Start)) tt

pub returns-in-Forward : goal.returns-in-Forward
returns-in-Forward c =
    let first = wide (first_fits (goal.at.returns-in-Forward c).Start) in
    let size : c.size.result ≡ nat_abs c.args.l.first = c.size.ensures ∙ ap nat_abs first.is in
    (forward_lower _ c.args.l c.in-Forward.is _ size, minutes_most c.size.result 40_000 (omega (arith, size, first.size)))

pub returns-in-Inverse : goal.returns-in-Inverse
returns-in-Inverse c =
    let x : to_z w32 (of_z w32 c.args.l.first) ≡ c.args.l.first = search rules in
    let y : to_z w32 (of_z w32 c.args.l.second) ≡ c.args.l.second = search rules in
    (inverse_lower _ c.args.l c.in-Inverse.is _ _ _ x y c.plane_minute.ensures.0, c.plane_minute.ensures.1)

pub returns-in-Convergence : goal.returns-in-Convergence
returns-in-Convergence c = (none_lower _ _ c.in-Convergence.is, omega arith)
