use mathlib.Core.Path.{sym}
use Prim.Native.Nat.{ℕ}
use lib.ListN.{length-replicate}
use Rattle.redo.proofs.output.Goals as goal

pub returns : goal.returns
returns c = sym (length-replicate {0} {A = ℕ} 1_084_160 0)
