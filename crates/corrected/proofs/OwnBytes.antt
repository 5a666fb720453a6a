-- A word of t written into a list gives the list t's four bytes there, where t holds bytes. Assumes nothing.
use mathlib.Core.Path.{◌≡◌, sym, ap, ◌∙◌}
use mathlib.Core.List.{List}
use mathlib.Core.Logic.{◌≢◌}
use Prim.Native.Nat.{ℕ, ◌+◌, ◌*◌, ◌/◌, ◌%◌, ◌≤◌, ◌<◌}
use native.Mathlib.Decide.{ℕ_discrete, dec_lt}
use native.Mathlib.Omega.{arith}
use lib.IntN.{ℤ}
use lib.ListN.{length, get_or, set, length-set}
use lib.Seq.{get_or-set_same, get_or-set_other}
use Rattle.words.specs.Words.{unsigned_at, signed32, word_at, bits32, put_bits, put_word}
use Rattle.words.proofs.TwosComplement.{signed32_low, signed32_below}
use Rattle.words.proofs.Writing.{put_word_keeps}

-- ---- the bits of a word that was read are its own
bits_back : (n : ℕ) → n < 4_294_967_296 → bits32 (signed32 n) ≡ n
unfolding bits32
bits_back n h = pick (dec_lt n 2_147_483_648)
  where
    pick : Dec (n < 2_147_483_648) → bits32 (signed32 n) ≡ n
    pick (yes l) = ap bits32 (signed32_low l)
    pick (no l) = ap bits32 (signed32_below (omega arith) h) ∙ omega arith

-- ---- the four bytes of the bits n, put as word w of x
module _ (x : List ℕ) (w n : ℕ) (h : 4 * w + 4 ≤ length x) where
  abbrev p : ℕ
  p = 4 * w

  first : get_or (put_bits x w n) p 0 ≡ n / 16_777_216
  unfolding put_bits
  first =
      let n₁ : p ≢ p + 1 = omega arith in
      let n₂ : p ≢ p + 2 = omega arith in
      let n₃ : p ≢ p + 3 = omega arith in
      let k : p < length x = omega arith in
      rw (get_or-set_other, get_or-set_other, get_or-set_other, get_or-set_same)

  second : get_or (put_bits x w n) (p + 1) 0 ≡ n / 65_536 % 256
  unfolding put_bits
  second =
      let n₂ : p + 1 ≢ p + 2 = omega arith in
      let n₃ : p + 1 ≢ p + 3 = omega arith in
      let k : p + 1 < length (set x p (n / 16_777_216)) = rw length-set (omega arith) in
      rw (get_or-set_other, get_or-set_other, get_or-set_same)

  third : get_or (put_bits x w n) (p + 2) 0 ≡ n / 256 % 256
  unfolding put_bits
  third =
      let n₃ : p + 2 ≢ p + 3 = omega arith in
      let k : p + 2 < length (set (set x p (n / 16_777_216)) (p + 1) (n / 65_536 % 256)) = simp length-set (omega arith) in
      rw (get_or-set_other, get_or-set_same)

  fourth : get_or (put_bits x w n) (p + 3) 0 ≡ n % 256
  unfolding put_bits
  fourth =
      let k : p + 3 < length (set (set (set x p (n / 16_777_216)) (p + 1) (n / 65_536 % 256)) (p + 2) (n / 256 % 256)) = simp length-set (omega arith) in
      rw get_or-set_same

module _ (t : List ℕ) (bytes : (q : ℕ) → get_or t q 0 < 256) where
  small : (w : ℕ) → unsigned_at t w < 4_294_967_296
  unfolding unsigned_at
  small w = omega (arith, bytes (4 * w), bytes (4 * w + 1), bytes (4 * w + 2), bytes (4 * w + 3))

  module _ (x : List ℕ) (w : ℕ) (h : 4 * w + 4 ≤ length x) where
    abbrev put : List ℕ
    put = put_bits x w (unsigned_at t w)

    back_first : get_or put (4 * w) 0 ≡ get_or t (4 * w) 0
    unfolding unsigned_at
    back_first = first x w (unsigned_at t w) h ∙ omega (arith, bytes (4 * w), bytes (4 * w + 1), bytes (4 * w + 2), bytes (4 * w + 3))

    back_second : get_or put (4 * w + 1) 0 ≡ get_or t (4 * w + 1) 0
    unfolding unsigned_at
    back_second = second x w (unsigned_at t w) h ∙ omega (arith, bytes (4 * w), bytes (4 * w + 1), bytes (4 * w + 2), bytes (4 * w + 3))

    back_third : get_or put (4 * w + 2) 0 ≡ get_or t (4 * w + 2) 0
    unfolding unsigned_at
    back_third = third x w (unsigned_at t w) h ∙ omega (arith, bytes (4 * w), bytes (4 * w + 1), bytes (4 * w + 2), bytes (4 * w + 3))

    back_fourth : get_or put (4 * w + 3) 0 ≡ get_or t (4 * w + 3) 0
    unfolding unsigned_at
    back_fourth = fourth x w (unsigned_at t w) h ∙ omega (arith, bytes (4 * w), bytes (4 * w + 1), bytes (4 * w + 2), bytes (4 * w + 3))

    own_byte : (q : ℕ) → q / 4 ≡ w → get_or put q 0 ≡ get_or t q 0
    own_byte q e = pick (ℕ_discrete q (4 * w)) (ℕ_discrete q (4 * w + 1)) (ℕ_discrete q (4 * w + 2))
      where
        pick : Dec (q ≡ 4 * w) → Dec (q ≡ 4 * w + 1) → Dec (q ≡ 4 * w + 2) → get_or put q 0 ≡ get_or t q 0
        pick (yes k) l m = ap (λ (j : ℕ). get_or put j 0) k ∙ back_first ∙ ap (λ (j : ℕ). get_or t j 0) (sym k)
        pick (no k) (yes l) m = ap (λ (j : ℕ). get_or put j 0) l ∙ back_second ∙ ap (λ (j : ℕ). get_or t j 0) (sym l)
        pick (no k) (no l) (yes m) = ap (λ (j : ℕ). get_or put j 0) m ∙ back_third ∙ ap (λ (j : ℕ). get_or t j 0) (sym m)
        pick (no k) (no l) (no m) =
            let last : q ≡ 4 * w + 3 = omega arith in
            ap (λ (j : ℕ). get_or put j 0) last ∙ back_fourth ∙ ap (λ (j : ℕ). get_or t j 0) (sym last)

    -- after t's word w was written into x, byte q is t's: in word w by the writing, elsewhere where it was t's before
    pub written : (v : ℤ) → v ≡ word_at t w → (q : ℕ) → (q / 4 ≢ w → get_or x q 0 ≡ get_or t q 0) → get_or (put_word x w v) q 0 ≡ get_or t q 0
    unfolding put_word word_at
    written v e q other = pick (ℕ_discrete (q / 4) w)
      where
        pick : Dec (q / 4 ≡ w) → get_or (put_word x w v) q 0 ≡ get_or t q 0
        pick (yes k) = ap (λ (z : ℤ). get_or (put_bits x w (bits32 z)) q 0) e ∙ ap (λ (n : ℕ). get_or (put_bits x w n) q 0) (bits_back (unsigned_at t w) (small w)) ∙ own_byte q k
        pick (no k) = put_word_keeps x w v q k ∙ other k
