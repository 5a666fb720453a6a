-- `row_search::first_look` meets its contract. Assumes nothing.
use native.Mathlib.Omega.{arith}
use mathlib.Core.Path.{◌≡◌}
use mathlib.Core.Bool.{true}
use lib.IntN.{pos}
use lib.Signed.{le_z}
use mir.Syntax.{w64}
use mir.Val.{of_z}
use Rattle.rounding.proofs.Holds.{Holds, held, held_size, difference_fits, difference, unsigned_fits}
use Rattle.rounding.proofs.Order.{difference_non_neg}
use Rattle.reading.proofs.Unsigned.{word_size}
use Rattle.row_search.proofs.first_look.Goals as goal
use Rattle.row_search.proofs.first_look.Goals.{After-unsigned_word}

module _ (c : After-unsigned_word) where
  z : Holds w64 (of_z w64 c.args.z) c.args.z 4_611_686_018_427_387_903
  z = held c.ranges.z (omega (arith, c.requires.5))

  figure : Holds w64 c.unsigned_word.result (pos c.unsigned_word.result) 4_294_967_295
  figure = held_size w64 (omega (arith, c.unsigned_word.ensures.1)) tt

  not_above : le_z (pos c.unsigned_word.result) c.args.z ≡ true
  not_above =
      let word = c.unsigned_word in
      rw (← word_size c.args.b.now c.args.c word.result word.ensures.0 word.ensures.1 c.requires.3) c.requires.4

pub overflow_sub-height : goal.overflow_sub-height
overflow_sub-height c = difference_fits (z c) (figure c) tt

pub overflow_cast-height-2 : goal.overflow_cast-height-2
overflow_cast-height-2 c = unsigned_fits (difference (z c) (figure c) tt) (difference_non_neg (pos c.unsigned_word.result) c.args.z (not_above c)) tt
