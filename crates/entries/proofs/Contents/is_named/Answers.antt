-- `entries::Contents::is_named` meets its contract. Assumes nothing.
use native.Mathlib.Omega.{arith}
use Rattle.entries.proofs.Search.{named_here, named_on, named_end}
use Rattle.entries.proofs.Contents.is_named.Goals as goal

pub returns-then-kind_at-kind : goal.returns-then-kind_at-kind
returns-then-kind_at-kind c = let there = c.args.self.there in search named_here

pub returns : goal.returns
returns c = let there = c.args.self.there in search named_end

pub loop-e-preserved : goal.loop-e-preserved
loop-e-preserved c = (omega arith, search named_on)
