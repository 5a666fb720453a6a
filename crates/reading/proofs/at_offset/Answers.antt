-- `reading::at_offset` meets its contract. Assumes nothing.
use Prim.Native.Nat.{◌*◌, ◌≤◌}
use native.Mathlib.Nat.{div-le_self}
use native.Mathlib.Omega.{arith}
use Rattle.reading.proofs.Pairs.{row-most, back_most, at_pair}
use Rattle.reading.proofs.Within.{this_there}
use Rattle.reading.proofs.at_offset.Goals as goal
use Rattle.reading.proofs.at_offset.Goals.{After-with_next-row}

-- the row's number and what lies before it fit where the offset does
module _ (c : After-with_next-row) where
  row_small : c.with_next-row.result ≤ c.args.offset
  row_small = let p = c.requires in row-most _ _ _ _ p.0 p.1 p.3 c.with_next-row.ensures

  back_small : c.with_next-row.result * c.args.step ≤ c.args.offset
  back_small = let p = c.requires in back_most _ _ _ _ p.0 p.1 p.3 c.with_next-row.ensures

pub returns : goal.returns
returns c = let p = c.requires in at_pair _ _ _ _ p.0 p.1 p.3 c.with_next-row.ensures p.2

pub overflow_cast-offset : goal.overflow_cast-offset
overflow_cast-offset c = record { fits = omega (arith, div-le_self c.args.offset c.args.step, c.ranges.offset.fits) }

pub with_next-row-requires : goal.with_next-row-requires
with_next-row-requires c = (c.requires.0, this_there _ _ _ c.requires.1 (omega (arith, c.requires.0)) c.requires.3)

pub overflow_cast-result : goal.overflow_cast-result
overflow_cast-result c = record { fits = omega (arith, row_small c, c.ranges.offset.fits) }

pub overflow_mul-result : goal.overflow_mul-result
overflow_mul-result c = record { fits = omega (arith, back_small c, c.ranges.offset.fits) }
