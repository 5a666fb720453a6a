-- `reading::within_rows` meets its contract. Assumes nothing.
use mathlib.Core.Path.{◌≡◌}
use Prim.Native.Nat.{◌-◌, ◌*◌}
use lib.IntN.{pos}
use mir.Syntax.{w64}
use mir.Val.{to_z, of_z}
use Rattle.reading.specs.Tables.{within_rows}
use Rattle.reading.proofs.Span.{span_fits, span_bits, span_signed}
use borrow.Author.Rules.{rules}
use Rattle.reading.proofs.within_rows.Goals as goal

pub returns : goal.returns
unfolding within_rows
returns c =
    let z : to_z w64 (of_z w64 c.args.z) ≡ c.args.z = search rules in
    let last : to_z w64 ((c.args.rows - 1) * c.args.step) ≡ pos ((c.args.rows - 1) * c.args.step) = search span_bits in
    rw (z, last)

pub overflow_mul-last : goal.overflow_mul-last
overflow_mul-last c = search span_fits

pub overflow_cast-result : goal.overflow_cast-result
overflow_cast-result c = search span_signed
