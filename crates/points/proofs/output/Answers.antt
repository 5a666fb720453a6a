use mathlib.Core.Path.{sym}
use Prim.Native.Nat.{ℕ}
use lib.ListN.{length-replicate}
use Rattle.points.proofs.output.Goals as goal

pub returns : goal.returns
returns c = sym (length-replicate {0} {A = ℕ} 1_098_240 0)
