-- What was written is read: of a word that was put, its bits; of every other word and byte, what was there. Assumes nothing.
use mathlib.Core.Path.{◌≡◌, refl, ap, ◌∙◌}
use mathlib.Core.List.{List, [], ◌∷◌, ◌++◌}
use mathlib.Core.Logic.{◌≢◌}
use Prim.Native.Nat.{ℕ, zero, suc, ◌+◌, ◌-◌, ◌*◌, ◌/◌, ◌%◌, ◌≤◌, ◌<◌}
use native.Mathlib.Omega.{arith}
use lib.IntN.{ℤ}
use borrow.Rule.Slice.PartMut.{put_mid}
use Rattle.std.specs.Int.{to_be_bytes}
use lib.ListN.{length, take, drop, get_or, set, length-set}
use lib.Seq.{drop-drop, get_or-set_same, get_or-set_other}
use mir.Syntax.{w32}
use mir.Val.{SFits}
use Rattle.words.specs.Words.{unsigned_at, signed32, word_at, bits32, put_bits, put_word}
use Rattle.words.proofs.TwosComplement.{bits32-small, signed32-bits32}

-- four bytes set from p on
abbrev four : List ℕ → ℕ → ℕ → ℕ → ℕ → ℕ → List ℕ
four s p a b c d = set (set (set (set s p a) (p + 1) b) (p + 2) c) (p + 3) d

module _ (s : List ℕ) (p a b c d : ℕ) where
  elsewhere : (q : ℕ) → q ≢ p → q ≢ p + 1 → q ≢ p + 2 → q ≢ p + 3 → get_or (four s p a b c d) q 0 ≡ get_or s q 0
  elsewhere q n₀ n₁ n₂ n₃ = rw (get_or-set_other, get_or-set_other, get_or-set_other, get_or-set_other)

  module _ (h : p + 4 ≤ length s) where
    first : get_or (four s p a b c d) p 0 ≡ a
    first =
        let n₁ : p ≢ p + 1 = omega arith in
        let n₂ : p ≢ p + 2 = omega arith in
        let n₃ : p ≢ p + 3 = omega arith in
        let k : p < length s = omega arith in
        rw (get_or-set_other, get_or-set_other, get_or-set_other, get_or-set_same)

    second : get_or (four s p a b c d) (p + 1) 0 ≡ b
    second =
        let n₂ : p + 1 ≢ p + 2 = omega arith in
        let n₃ : p + 1 ≢ p + 3 = omega arith in
        let k : p + 1 < length (set s p a) = rw length-set (omega arith) in
        rw (get_or-set_other, get_or-set_other, get_or-set_same)

    third : get_or (four s p a b c d) (p + 2) 0 ≡ c
    third =
        let n₃ : p + 2 ≢ p + 3 = omega arith in
        let k : p + 2 < length (set (set s p a) (p + 1) b) = simp length-set (omega arith) in
        rw (get_or-set_other, get_or-set_same)

    fourth : get_or (four s p a b c d) (p + 3) 0 ≡ d
    fourth = let k : p + 3 < length (set (set (set s p a) (p + 1) b) (p + 2) c) = simp length-set (omega arith) in rw get_or-set_same

-- as a write of four bytes to their place sets them
four_put : (s : List ℕ) (p a b c d : ℕ) → p + 4 ≤ length s → take p s ++ (a ∷ b ∷ c ∷ d ∷ drop (suc (suc (suc (suc p)))) s) ≡ set (set (set (set s p a) (suc p) b) (suc (suc p)) c) (suc (suc (suc p))) d
four_put (x ∷ y ∷ z ∷ w ∷ s) zero a b c d h = refl
four_put (x ∷ y ∷ z ∷ []) zero a b c d h = absurd (omega arith)
four_put (x ∷ y ∷ []) zero a b c d h = absurd (omega arith)
four_put (x ∷ []) zero a b c d h = absurd (omega arith)
four_put [] p a b c d h = absurd (omega arith)
four_put (x ∷ s) (suc p) a b c d h = ap (λ (t : List ℕ). x ∷ t) (four_put s p a b c d (omega arith))

module _ (s : List ℕ) (i n : ℕ) where
  pub bytes_put : 4 * i + 4 ≤ length s → n < 4_294_967_296 → put_mid (4 * i) (4 * i + 4 - 4 * i) s (to_be_bytes w32 n) ≡ put_bits s i n
  unfolding put_bits
  bytes_put h k =
      let four : 4 * i + 4 - 4 * i ≡ 4 = omega arith in
      let highest : n / 16_777_216 % 256 ≡ n / 16_777_216 = omega arith in
      let one : 4 * i + 1 ≡ suc (4 * i) = omega arith in
      let two : 4 * i + 2 ≡ suc (suc (4 * i)) = omega arith in
      let three : 4 * i + 3 ≡ suc (suc (suc (4 * i))) = omega arith in
      let end : 4 * i + 4 ≡ suc (suc (suc (suc (4 * i)))) = omega arith in
      rw (four, drop-drop, highest, one, two, three, end) (four_put s (4 * i) (n / 16_777_216) (n / 65_536 % 256) (n / 256 % 256) (n % 256) h)

  pub unsigned_at_put : 4 * i + 4 ≤ length s → n < 4_294_967_296 → unsigned_at (put_bits s i n) i ≡ n
  unfolding unsigned_at put_bits
  unsigned_at_put h k = rw (first, second, third, fourth) (omega arith)

  -- byte q lies in word q / 4
  pub put_bits_keeps : (q : ℕ) → q / 4 ≢ i → get_or (put_bits s i n) q 0 ≡ get_or s q 0
  unfolding put_bits
  put_bits_keeps q h =
      elsewhere s (4 * i) (n / 16_777_216) (n / 65_536 % 256) (n / 256 % 256) (n % 256) q (omega arith) (omega arith) (omega arith) (omega arith)

  pub unsigned_at_put_other : (j : ℕ) → j ≢ i → unsigned_at (put_bits s i n) j ≡ unsigned_at s j
  unfolding unsigned_at
  unsigned_at_put_other j h =
      rw (
        put_bits_keeps (4 * j) (omega arith),
        put_bits_keeps (4 * j + 1) (omega arith),
        put_bits_keeps (4 * j + 2) (omega arith),
        put_bits_keeps (4 * j + 3) (omega arith),
      )

  pub length-put_bits : length (put_bits s i n) ≡ length s
  unfolding put_bits
  length-put_bits = simp length-set

module _ (s : List ℕ) (i : ℕ) (v : ℤ) where
  -- the word that was written is read
  pub word_at_put : 4 * i + 4 ≤ length s → SFits w32 v → word_at (put_word s i v) i ≡ v
  unfolding word_at put_word
  word_at_put h k = ap signed32 (unsigned_at_put s i (bits32 v) h (bits32-small v k)) ∙ signed32-bits32 v k

  -- every other word stays
  pub word_at_put_other : (j : ℕ) → j ≢ i → word_at (put_word s i v) j ≡ word_at s j
  unfolding word_at put_word
  word_at_put_other j h = ap signed32 (unsigned_at_put_other s i (bits32 v) j h)

  -- every byte outside the word stays
  pub put_word_keeps : (q : ℕ) → q / 4 ≢ i → get_or (put_word s i v) q 0 ≡ get_or s q 0
  unfolding put_word
  put_word_keeps q h = put_bits_keeps s i (bits32 v) q h

  pub length-put_word : length (put_word s i v) ≡ length s
  unfolding put_word
  length-put_word = length-put_bits s i (bits32 v)
