-- The words of an entry: where they lie, and what is read of them after an entry was written. Assumes nothing.
use mathlib.Core.Path.{◌≡◌}
use mathlib.Core.List.{List}
use mathlib.Core.Logic.{◌≢◌}
use Prim.Native.Nat.{ℕ, ◌+◌, ◌*◌, ◌/◌, ◌<◌, ◌≤◌}
use native.Mathlib.Nat.{add-zero}
use native.Mathlib.Omega.{arith}
use lib.Dec.{lit<}
use lib.ListN.{length, get_or}
use Rattle.words.specs.Words.{unsigned_at, bits32, put_word}
use Rattle.words.proofs.Writing.{unsigned_at_put, unsigned_at_put_other, put_word_keeps, length-put_word}
use Rattle.entries.specs.declared.Form.{Form}
use Rattle.entries.specs.Layout.{HasContents, first_entry, entry_words}
use Rattle.entries.specs.Entries.{kind_at, start_at, rows_at}
use Rattle.entries.proofs.Forms.{word-within}
use Rattle.writing.specs.Contents.{most_written, put_count, put_entry}

-- ---- where they lie
module _ (f : Form) (s : List ℕ) (e : ℕ) (has : HasContents f s) (h : e < f.kinds) where
  inside : (j : ℕ) → j < entry_words → 4 * (f.words * e + first_entry + j) + 4 ≤ length s
  inside j l = word-within f has.small e h j l s has.long

  pub kind_inside : 4 * (f.words * e + first_entry) + 4 ≤ length s
  kind_inside = omega (arith, inside 0 (lit< tt))

  pub start_inside : 4 * (f.words * e + first_entry + 1) + 4 ≤ length s
  start_inside = inside 1 (lit< tt)

  pub rows_inside : 4 * (f.words * e + first_entry + 2) + 4 ≤ length s
  rows_inside = inside 2 (lit< tt)

-- ---- one word put
module _ (s : List ℕ) (i n : ℕ) where
  pub count_put : 4 * i + 4 ≤ length s → n ≤ most_written → unsigned_at (put_count s i n) i ≡ n
  unfolding put_word bits32
  count_put h k = unsigned_at_put s i n h (omega arith)

  pub count_keeps : (j : ℕ) → j ≢ i → unsigned_at (put_count s i n) j ≡ unsigned_at s j
  unfolding put_word bits32
  count_keeps j h = unsigned_at_put_other s i n j h

-- word j is none of the three that are written of entry e
abbrev pub Outside : Form → ℕ → ℕ → Type 0
Outside f e j = (i : ℕ) → i < entry_words → j ≢ f.words * e + first_entry + i

-- ---- an entry put: in it what was put, and every other word and byte as it was
module _ (f : Form) (s : List ℕ) (e kind start rows : ℕ) where
  abbrev at : ℕ
  at = f.words * e + first_entry

  abbrev after : List ℕ
  after = put_entry f s e kind start rows

  pub length-put_entry : length after ≡ length s
  unfolding put_entry
  length-put_entry = simp length-put_word

  pub entry_keeps : (j : ℕ) → Outside f e j → unsigned_at after j ≡ unsigned_at s j
  unfolding put_entry
  entry_keeps j out =
      let n₀ : j ≢ at = λ p. out 0 (lit< tt) (omega arith) in
      let n₁ : j ≢ at + 1 = out 1 (lit< tt) in
      let n₂ : j ≢ at + 2 = out 2 (lit< tt) in
      rw (count_keeps, count_keeps, count_keeps)

  pub entry_keeps_byte : (q : ℕ) → Outside f e (q / 4) → get_or after q 0 ≡ get_or s q 0
  unfolding put_entry
  entry_keeps_byte q out =
      let n₀ : q / 4 ≢ at = λ p. out 0 (lit< tt) (omega arith) in
      let n₁ : q / 4 ≢ at + 1 = out 1 (lit< tt) in
      let n₂ : q / 4 ≢ at + 2 = out 2 (lit< tt) in
      rw (put_word_keeps, put_word_keeps, put_word_keeps)

  module _ (has : HasContents f s) (h : e < f.kinds) where
    pub kind_put : kind ≤ most_written → kind_at f after e ≡ kind
    unfolding put_entry
    kind_put k =
        let n₁ : at ≢ at + 1 = omega arith in
        let n₂ : at ≢ at + 2 = omega arith in
        rw (add-zero at, count_keeps, count_keeps, count_put s at kind (kind_inside f s e has h) k)

    pub start_put : start ≤ most_written → start_at f after e ≡ start
    unfolding put_entry
    start_put k =
        let n₂ : at + 1 ≢ at + 2 = omega arith in
        let l : 4 * (at + 1) + 4 ≤ length (put_count s at kind) = rw length-put_word (start_inside f s e has h) in
        rw (count_keeps, count_put _ _ _ l k)

    pub rows_put : rows ≤ most_written → rows_at f after e ≡ rows
    unfolding put_entry
    rows_put k =
        let l : 4 * (at + 2) + 4 ≤ length (put_count (put_count s at kind) (at + 1) start) = simp length-put_word (rows_inside f s e has h) in
        rw (count_put _ _ _ l k)

-- ---- in the shape of the code: one word after the other
pub counts_put : (f : Form) (s t₁ t₂ t₃ : List ℕ) (e kind start rows : ℕ)
    → t₁ ≡ put_count s (f.words * e + first_entry) kind → t₂ ≡ put_count t₁ (f.words * e + first_entry + 1) start → t₃ ≡ put_count t₂ (f.words * e + first_entry + 2) rows
    → t₃ ≡ put_entry f s e kind start rows
unfolding put_entry
counts_put f s t₁ t₂ t₃ e kind start rows p q r = rw (r, q, p)
