-- `sheet_check::longitude_fault` meets its contract. Assumes nothing.
use mathlib.Core.Path.{◌∙◌}
use Rattle.refusals.proofs.Ladders.{below, beyond}
use Rattle.small_rows.specs.SmallRows.{longitude_fault}
use Rattle.sheet_check.proofs.longitude_fault.Goals as goal

pub returns-then-i-n : goal.returns-then-i-n
unfolding longitude_fault
returns-then-i-n c = below _ _ _ _ _ c.if-i-n.true (c.longitude_row.ensures ∙ rw (c.longitude_at-row.ensures, c.longitude_at-next.ensures))

pub returns : goal.returns
unfolding longitude_fault
returns c = beyond _ _ _ _ _ c.if-i-n.false (c.longitude_row-2.ensures ∙ rw c.longitude_at-row.ensures)
