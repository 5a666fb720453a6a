-- `latitude_rows::last_latitude_row` meets its contract. Assumes nothing.
use mathlib.Core.Path.{◌≡◌, ap, ◌∙◌}
use mathlib.Core.Bool.{not}
use Rattle.refusals.proofs.Ladders.{stop, go, stop_unless, go_unless}
use Rattle.rules.specs.Latitude.{same_differences, no_differences}
use Rattle.rules.proofs.WhatPasses.{eq_differences}
use Rattle.latitude_rows.specs.Rows.{last_fault}
use Rattle.latitude_rows.proofs.last_latitude_row.Goals as goal
use Rattle.latitude_rows.proofs.last_latitude_row.Goals.{After-ne}

-- the row's differences beside those of a last row
as_stated : (c : After-ne) → c.ne.result ≡ not (same_differences c.args.row.differences no_differences)
as_stated c = c.ne.ensures ∙ ap not (eq_differences c.args.row.differences c.no_differences.result ∙ ap (same_differences c.args.row.differences) c.no_differences.ensures)

pub returns-then-not-row_in_range : goal.returns-then-not-row_in_range
unfolding last_fault
returns-then-not-row_in_range c = search stop

pub returns-then-ne : goal.returns-then-ne
unfolding last_fault
returns-then-ne c = search (stop_unless, go, as_stated (goal.at.returns-then-ne c).After-ne)

pub returns : goal.returns
unfolding last_fault
returns c = search (go, go_unless, as_stated (goal.at.returns c).After-ne)
