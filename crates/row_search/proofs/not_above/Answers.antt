-- `row_search::not_above` meets its contract. Assumes nothing.
use native.Mathlib.Omega.{arith}
use Prim.Native.Nat.{◌+◌, ◌*◌}
use lib.IntN.{pos}
use mir.Syntax.{w64}
use mir.Facts.{to_z-of_z}
use Rattle.rounding.proofs.Holds.{Holds, held_size}
use Rattle.reading.proofs.Unsigned.{word_size}
use Rattle.row_search.proofs.not_above.Goals as goal

pub returns : goal.returns
returns c =
    let a = c.args in
    let word = c.unsigned_word in
    let figure : Holds w64 word.result (pos word.result) 4_294_967_295 = held_size w64 (omega (arith, word.ensures.1)) tt in
    rw (figure.is, to_z-of_z c.ranges.z, word_size a.b.now (a.w * a.i + a.c) word.result word.ensures.0 word.ensures.1 c.requires.1)
