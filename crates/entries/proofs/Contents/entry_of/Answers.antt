-- `entries::Contents::entry_of` meets its contract. Assumes nothing.
use native.Mathlib.Omega.{arith}
use Rattle.entries.proofs.Search.{found_here, found_on, found_end}
use Rattle.entries.proofs.Contents.entry_of.Goals as goal

pub returns-then-kind_at-kind : goal.returns-then-kind_at-kind
returns-then-kind_at-kind c = (search found_here, omega arith)

pub returns : goal.returns
returns c = (search found_end, omega arith)

pub loop-e-preserved : goal.loop-e-preserved
loop-e-preserved c = (omega arith, search found_on)
