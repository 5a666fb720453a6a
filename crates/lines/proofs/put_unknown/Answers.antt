-- `lines::put_unknown` meets its contract. Assumes nothing.
use native.Mathlib.Omega.{arith}
use Rattle.lines.specs.Lines.{unknown_line}
use Rattle.lines.proofs.put_unknown.Goals as goal

pub returns : goal.returns
unfolding unknown_line
returns c = let text = c.put_size_and.ensures in (omega (arith, text.0), text.1)
