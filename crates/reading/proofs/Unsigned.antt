-- A word that is not negative is what it reads without a sign, and two such rows are read between as sizes. Assumes nothing.
use mathlib.Core.Path.{◌≡◌, sym, ap, ◌∙◌, subst}
use mathlib.Core.Bool.{Bool, true}
use mathlib.Core.List.{List}
use Prim.Native.Nat.{ℕ, ◌+◌, ◌*◌, ◌-◌, ◌<◌, ◌≤◌}
use native.Mathlib.Decide.{dec_lt}
use native.Mathlib.Omega.{arith}
use lib.Dec.{T}
use lib.IntN.{pos}
use lib.Signed.{le_z}
use Rattle.rounding.specs.Nearest.{nearest_size, on_half_size}
use Rattle.rounding.specs.Ranges.{most_row}
use Rattle.rounding.proofs.Interval.{between_sizes, half_sizes}
use Rattle.words.specs.Words.{unsigned_at, signed32, word_at}
use Rattle.words.proofs.TwosComplement.{signed32_low, signed32_below}
use Rattle.reading.specs.Tables.{column, past_row, past_row_half}
use Rattle.reading.proofs.Pairs.{next_word}

not_negative : (n : ℕ) → n < 4_294_967_296 → le_z (pos 0) (signed32 n) ≡ true → signed32 n ≡ pos n
not_negative n small h = pick (dec_lt n 2_147_483_648)
  where
    pick : Dec (n < 2_147_483_648) → signed32 n ≡ pos n
    pick (yes l) = signed32_low l
    pick (no l) = absurd (subst T (sym h ∙ ap (le_z (pos 0)) (signed32_below (omega arith) small)) tt)

pub word_size : (b : List ℕ) (k n : ℕ) → n ≡ unsigned_at b k → n < 4_294_967_296 → le_z (pos 0) (word_at b k) ≡ true → word_at b k ≡ pos n
unfolding word_at
word_size b k n e small h = not_negative (unsigned_at b k) (rw (← e) small) h ∙ ap pos (sym e)

-- a word without a sign is a row that `between` could take
pub word_row : (n : ℕ) → n < 4_294_967_296 → n ≤ most_row
word_row n h = omega arith

module _ (b : List ℕ) (w c i t step u v : ℕ) (l : t ≤ step)
    (e : u ≡ unsigned_at b (w * i + c)) (hu : u < 4_294_967_296) (p : le_z (pos 0) (column b w c i) ≡ true)
    (f : v ≡ unsigned_at b (w * i + c + w)) (hv : v < 4_294_967_296) (q : le_z (pos 0) (column b w c (i + 1)) ≡ true) where
  this : column b w c i ≡ pos u
  this = word_size b (w * i + c) u e hu p

  next : column b w c (i + 1) ≡ pos v
  next = sym (next_word b w c i) ∙ word_size b (w * i + c + w) v f hv (rw (next_word b w c i) q)

  pub sizes_between : (r : ℕ) → r ≡ nearest_size (u * (step - t) + v * t) step → pos r ≡ past_row (column b w c) i t step
  unfolding past_row
  sizes_between r a = ap pos a ∙ sym (between_sizes t step l u v) ∙ rw (this, next)

  pub sizes_half : (h : Bool) → h ≡ on_half_size (u * (step - t) + v * t) step → h ≡ past_row_half (column b w c) i t step
  unfolding past_row_half
  sizes_half h a = a ∙ sym (half_sizes t step l u v) ∙ rw (this, next)
