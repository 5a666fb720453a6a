-- `inverse::from_reduced` meets its contract. Assumes nothing.
use mathlib.Core.Path.{◌≡◌, ap, ◌∙◌}
use mathlib.Core.Bool.{true}
use native.Mathlib.Nat.{lt_of_le_of_lt}
use lib.Dec.{lit<, lit≤}
use mir.Syntax.{w64}
use mir.Val.{to_z, of_z}
use Rattle.refusals.proofs.Ladders.{stop, go, kept}
use Rattle.tables.proofs.Ranges.{minute_step}
use Rattle.extent.specs.Extent.{reduced_known}
use Rattle.extent.proofs.Reach.{reduced_reach}
use Rattle.inverse.specs.Inverse.{row_of, from_reduced}
use Rattle.inverse.proofs.Distances.{next_there}
use borrow.Author.Rules.{rules}
use Rattle.inverse.proofs.from_reduced.Goals as goal
use Rattle.inverse.proofs.from_reduced.Goals.{After-reduced_known, Else-not-reduced_known, Start}

module _ (c : Start) where
  xp_is : to_z w64 (of_z w64 c.args.xp) ≡ c.args.xp
  xp_is = search rules

  reduced_is : to_z w64 (of_z w64 c.args.reduced) ≡ c.args.reduced
  reduced_is = search rules

known : (c : After-reduced_known) → c.reduced_known.result ≡ reduced_known c.args.sheet.bytes.now c.args.reduced
known c = c.reduced_known.ensures ∙ ap (reduced_known _) (reduced_is (goal.at.After-reduced_known c).Start)

-- the reduced northing as it is handed on is within the y0
there : (c : Else-not-reduced_known) → let args = c.args in reduced_known args.sheet.bytes.now (to_z w64 (of_z w64 args.reduced)) ≡ true
there c = kept _ _ c.reduced_known.ensures c.if-not-reduced_known.false

pub returns-then-not-reduced_known : goal.returns-then-not-reduced_known
unfolding from_reduced
returns-then-not-reduced_known c = stop _ _ _ _ (known (goal.at.returns-then-not-reduced_known c).After-reduced_known) c.if-not-reduced_known.true

pub returns : goal.returns
unfolding from_reduced
returns c =
    let seconds = c.seconds_past-seconds.ensures in
    go _ _ _ _ _ (known (goal.at.returns c).After-reduced_known) c.if-not-reduced_known.false (c.from_distance.ensures ∙ rw (xp_is (goal.at.returns c).Start, seconds.0, seconds.2, reduced_is (goal.at.returns c).Start))

pub row_with_next-row-requires : goal.row_with_next-row-requires
row_with_next-row-requires c = ((reduced_reach _ _ (there c)).0, rw (reduced_is (goal.at.row_with_next-row-requires c).Start) c.requires.1)

pub seconds_past-seconds-requires : goal.seconds_past-seconds-requires
unfolding row_of
seconds_past-seconds-requires c = (there (goal.at.seconds_past-seconds-requires c).Else-not-reduced_known, c.row_with_next-row.ensures)

pub from_distance-requires : goal.from_distance-requires
unfolding row_of
from_distance-requires c =
    let passes = c.args.sheet.known.passes in
    let next = next_there _ passes _ (there (goal.at.from_distance-requires c).Else-not-reduced_known) _ c.row_with_next-row.ensures in (
      rw (xp_is (goal.at.from_distance-requires c).Start) c.requires.0,
      record { among = record { stepped = record { past = c.seconds_past-seconds.ensures.1; some = lit< tt; most = lit≤ tt }; next = next }; step = minute_step _ passes },
    )

pub overflow_cast-at : goal.overflow_cast-at
overflow_cast-at c = record { fits = lt_of_le_of_lt c.seconds_past-seconds.ensures.1 (lit< tt) }
