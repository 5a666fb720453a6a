-- A part put in its place: it is read back, and what lies outside it stays. Assumes nothing.
use mathlib.Core.Path.{◌≡◌, sym, ap, ◌∙◌}
use mathlib.Core.List.{List, ◌++◌}
use Prim.Native.Nat.{ℕ, ◌+◌, ◌*◌, ◌-◌, ◌≤◌, ◌<◌}
use native.Mathlib.Omega.{arith}
use lib.ListN.{length, take, drop, get_or, length-take, length-drop, length-append, get_or-append}
use lib.Seq.{length-take-le, get_or-take, get_or-drop, get_or-append-add, take_at, drop_at, drop-drop, ext_get_or}
use borrow.Rule.Slice.PartMut.{put_mid, put_same}
use Rattle.words.specs.Words.{unsigned_at}
use Rattle.words.specs.Parts.{part_of, put_part}
use Rattle.words.proofs.PartWords.{part_is}

-- ---- two sheets of one length
module _ (s t : List ℕ) (long : length s ≡ length t) where
  -- that agree in every byte of a part have the same part
  pub same_part : (a n : ℕ) → ((q : ℕ) → 4 * a ≤ q → q < 4 * (a + n) → get_or s q 0 ≡ get_or t q 0) → part_of s a n ≡ part_of t a n
  same_part a n same = ext_get_or 0 (part_of s a n) (part_of t a n) (simp (length-take, length-drop, long)) at_byte
    where
      at_byte : (i : ℕ) → i < length (part_of s a n) → get_or (part_of s a n) i 0 ≡ get_or (part_of t a n) i 0
      at_byte i h =
          let l : i < 4 * n = omega (arith, length-take (4 * n) (drop (4 * a) s)) in
          get_or-take (4 * n) (drop (4 * a) s) i 0 l
          ∙ get_or-drop (4 * a) s i 0
          ∙ same (4 * a + i) (omega arith) (omega arith)
          ∙ sym (get_or-take (4 * n) (drop (4 * a) t) i 0 l ∙ get_or-drop (4 * a) t i 0)

-- that agree in the four bytes of a word have the same word
pub same_word : (s t : List ℕ) (i : ℕ) → ((q : ℕ) → 4 * i ≤ q → q < 4 * i + 4 → get_or s q 0 ≡ get_or t q 0) → unsigned_at s i ≡ unsigned_at t i
unfolding unsigned_at
same_word s t i same =
    rw (
      same (4 * i) (omega arith) (omega arith),
      same (4 * i + 1) (omega arith) (omega arith),
      same (4 * i + 2) (omega arith) (omega arith),
      same (4 * i + 3) (omega arith) (omega arith),
    )

-- ---- b, of n words, was put from word a on
module _ (s b : List ℕ) (a n : ℕ) (within : 4 * (a + n) ≤ length s) (whole : length b ≡ 4 * n) where
  front : length (take (4 * a) s) ≡ 4 * a
  front = length-take-le (4 * a) s (omega arith)

  pub length-put_part : length (put_part s a n b) ≡ length s
  unfolding put_part
  length-put_part = simp (length-append, length-drop, front, whole) (omega arith)

  -- a byte before it
  pub before_part : (q : ℕ) → q < 4 * a → get_or (put_part s a n b) q 0 ≡ get_or s q 0
  unfolding put_part
  before_part q h =
      get_or-append (take (4 * a) s) (b ++ drop (4 * (a + n)) s) 0 q (omega (arith, front)) ∙ get_or-take (4 * a) s q 0 h

  -- and after it
  pub after_part : (q : ℕ) → 4 * (a + n) ≤ q → get_or (put_part s a n b) q 0 ≡ get_or s q 0
  unfolding put_part
  after_part q h =
      let at : length (take (4 * a) s) + (length b + (q - 4 * (a + n))) ≡ q = omega (arith, front) in
      let back : 4 * (a + n) + (q - 4 * (a + n)) ≡ q = omega arith in
      ap (λ (k : ℕ). get_or (take (4 * a) s ++ (b ++ drop (4 * (a + n)) s)) k 0) (sym at)
      ∙ get_or-append-add (take (4 * a) s) (b ++ drop (4 * (a + n)) s) (length b + (q - 4 * (a + n))) 0
      ∙ get_or-append-add b (drop (4 * (a + n)) s) (q - 4 * (a + n)) 0
      ∙ get_or-drop (4 * (a + n)) s (q - 4 * (a + n)) 0
      ∙ ap (λ (k : ℕ). get_or s k 0) back

  -- so the part is b
  pub part_put : part_of (put_part s a n b) a n ≡ b
  unfolding put_part
  part_put =
      ap (λ (t : List ℕ). take (4 * n) t) (drop_at (take (4 * a) s) (b ++ drop (4 * (a + n)) s) (4 * a) front)
      ∙ take_at b (drop (4 * (a + n)) s) (4 * n) whole

  -- and a part that ends before it, or starts after it, stays
  pub part_before : (c m : ℕ) → c + m ≤ a → part_of (put_part s a n b) c m ≡ part_of s c m
  part_before c m h = same_part (put_part s a n b) s length-put_part c m (λ q l u. before_part q (omega arith))

  pub part_after : (c m : ℕ) → a + n ≤ c → part_of (put_part s a n b) c m ≡ part_of s c m
  part_after c m h = same_part (put_part s a n b) s length-put_part c m (λ q l u. after_part q (omega arith))

  -- as a word before it does
  pub word_before : (i : ℕ) → i < a → unsigned_at (put_part s a n b) i ≡ unsigned_at s i
  word_before i h = same_word (put_part s a n b) s i (λ q l u. before_part q (omega arith))

-- `&mut s[4 * a..4 * a + 4 * n]`, lent and come back as b
pub part_back : (s b : List ℕ) (a n : ℕ) → put_mid (4 * a) (4 * a + 4 * n - 4 * a) s b ≡ put_part s a n b
unfolding put_part
part_back s b a n =
    let k : 4 * a + (4 * a + 4 * n - 4 * a) ≡ 4 * (a + n) = omega arith in
    rw (drop-drop, k)

-- a part put back as it was leaves the sheet as it was
pub put_back : (s : List ℕ) (a n : ℕ) → put_part s a n (part_of s a n) ≡ s
put_back s a n =
    sym (part_back s (part_of s a n) a n)
    ∙ ap (λ (b : List ℕ). put_mid (4 * a) (4 * a + 4 * n - 4 * a) s b) (sym (part_is s a n))
    ∙ put_same (4 * a) (4 * a + 4 * n - 4 * a) s
