-- `entries::Contents::span_at` meets its contract. Assumes nothing.
use Prim.Native.Nat.{◌*◌, ◌<◌}
use Rattle.entries.specs.Layout.{most_width}
use Rattle.entries.proofs.Spans.{span_small, span_is}
use native.Mathlib.Omega.{arith}
use Rattle.entries.proofs.Contents.span_at.Goals as goal

pub returns : goal.returns
returns c = (search span_is, search span_small)

pub overflow_mul-result : goal.overflow_mul-result
overflow_mul-result c = let small : c.rows_at.result * c.width_of.result < 4_294_967_296 * most_width = search span_small in omega arith
