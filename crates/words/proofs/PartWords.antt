-- A word of a part is the word of the sheet: word i of the part from word a on is word a + i. Assumes nothing.
use mathlib.Core.Path.{◌≡◌, ap, ◌∙◌}
use mathlib.Core.List.{List}
use Prim.Native.Nat.{ℕ, ◌+◌, ◌*◌, ◌-◌, ◌≤◌, ◌<◌}
use native.Mathlib.Nat.{mul-add, add_assoc}
use native.Mathlib.Omega.{arith}
use lib.ListN.{length, take, drop, length-take, length-drop}
use lib.Seq.{get_or-drop, get_or-take}
use Rattle.words.specs.Words.{unsigned_at, signed32, word_at}
use Rattle.words.specs.Parts.{part_of}

-- from word a on
pub unsigned_at-drop : (s : List ℕ) (a i : ℕ) → unsigned_at (drop (4 * a) s) i ≡ unsigned_at s (a + i)
unfolding unsigned_at
unsigned_at-drop s a i = simp (get_or-drop, mul-add, add_assoc)

-- of the first k bytes
pub unsigned_at-take : (s : List ℕ) (k i : ℕ) → 4 * i + 4 ≤ k → unsigned_at (take k s) i ≡ unsigned_at s i
unfolding unsigned_at
unsigned_at-take s k i h =
    rw (
      get_or-take k s (4 * i) 0 (omega arith),
      get_or-take k s (4 * i + 1) 0 (omega arith),
      get_or-take k s (4 * i + 2) 0 (omega arith),
      get_or-take k s (4 * i + 3) 0 (omega arith),
    )

-- of the k bytes from word a on, as `&s[4 * a..]` and `&s[4 * a..e]` have them
pub unsigned_at_part : (s : List ℕ) (a k i : ℕ) → 4 * i + 4 ≤ k → unsigned_at (take k (drop (4 * a) s)) i ≡ unsigned_at s (a + i)
unsigned_at_part s a k i h = unsigned_at-take (drop (4 * a) s) k i h ∙ unsigned_at-drop s a i

pub word_at_part : (s : List ℕ) (a k i : ℕ) → 4 * i + 4 ≤ k → word_at (take k (drop (4 * a) s)) i ≡ word_at s (a + i)
unfolding word_at
word_at_part s a k i h = ap signed32 (unsigned_at_part s a k i h)

-- of the n words from word a on
module _ (s : List ℕ) (a n i : ℕ) (h : i < n) where
  pub unsigned_at-part_of : unsigned_at (part_of s a n) i ≡ unsigned_at s (a + i)
  unsigned_at-part_of = unsigned_at_part s a (4 * n) i (omega arith)

  pub word_at-part_of : word_at (part_of s a n) i ≡ word_at s (a + i)
  word_at-part_of = word_at_part s a (4 * n) i (omega arith)

-- the part has its n words where the sheet has them
pub length-part_of : (s : List ℕ) (a n : ℕ) → 4 * (a + n) ≤ length s → length (part_of s a n) ≡ 4 * n
length-part_of s a n h = simp (length-take, length-drop) (omega arith)

-- `&s[4 * a..4 * a + 4 * n]` is the part
pub part_is : (s : List ℕ) (a n : ℕ) → take (4 * a + 4 * n - 4 * a) (drop (4 * a) s) ≡ part_of s a n
part_is s a n = let e : 4 * a + 4 * n - 4 * a ≡ 4 * n = omega arith in rw e
