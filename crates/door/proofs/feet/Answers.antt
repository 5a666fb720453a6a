-- `door::feet` meets its contract: 100.0 is the float of the count 100; then that an f64 holds each count. Assumes nothing.
use borrow.Author.Rules.{rules}
use lib.Ieee.{div, of_int, of_bits}
use Rattle.door.proofs.feet.Goals as goal

pub returns : goal.returns
unfolding div of_int of_bits
returns c = search rules
