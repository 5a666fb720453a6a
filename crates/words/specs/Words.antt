-- "A sheet is words of four bytes, big-endian, two's complement."
-- A sheet is a list of bytes, each below 256, and a word has a number, from 0. A byte past the end reads 0. What relies on a word first makes sure that the sheet has it.
use Rattle.std.specs.Prelude.{cond, List, ℕ, suc, ◌+◌, ◌-◌, ◌*◌, ◌/◌, ◌%◌, ltb, ℤ, pos, negsuc, ◌-ℤ◌, get_or, set}

-- Word i without a sign: its four bytes, the first the highest.
unfoldable pub unsigned_at : List ℕ → ℕ → ℕ
unsigned_at s i =
    get_or s (4 * i) 0 * 16_777_216 + get_or s (4 * i + 1) 0 * 65_536 + get_or s (4 * i + 2) 0 * 256 + get_or s (4 * i + 3) 0

-- Two's complement: n below 2³¹, and n − 2³² from there on.
unfoldable pub signed32 : ℕ → ℤ
signed32 n = cond (ltb n 2_147_483_648) (pos n) (pos n -ℤ pos 4_294_967_296)

-- Word i.
unfoldable pub word_at : List ℕ → ℕ → ℤ
word_at s i = signed32 (unsigned_at s i)

-- The bits of v, for v within 32 bits: v itself, or v + 2³² where v is below zero.
unfoldable pub bits32 : ℤ → ℕ
bits32 (pos n) = n
bits32 (negsuc n) = 4_294_967_296 - suc n

-- The sheet with the bits n, below 2³², as word i: four bytes set, the first to the highest.
unfoldable pub put_bits : List ℕ → ℕ → ℕ → List ℕ
put_bits s i n =
    set (set (set (set s (4 * i) (n / 16_777_216)) (4 * i + 1) (n / 65_536 % 256)) (4 * i + 2) (n / 256 % 256)) (4 * i + 3) (n % 256)

-- The sheet with v as word i.
unfoldable pub put_word : List ℕ → ℕ → ℤ → List ℕ
put_word s i v = put_bits s i (bits32 v)
