-- What is read of a sheet after its contents were written: word 0 and each entry's kind and rows as given, and each body's start where the check has it start. All else stays.
-- Assumes nothing.
use mathlib.Core.Path.{◌≡◌, refl, sym, ap, ◌∙◌}
use mathlib.Core.List.{List}
use mathlib.Core.Logic.{◌≢◌}
use Prim.Native.Nat.{ℕ, zero, suc, ◌+◌, ◌*◌, ◌-◌, ◌<◌, ◌≤◌}
use native.Mathlib.Nat.{zero-add, add-zero, suc-add, mul-suc, mul-le-mul_left}
use native.Mathlib.Decide.{dec_lt}
use native.Mathlib.Omega.{arith}
use lib.Dec.{lit<}
use lib.ListN.{length, get_or, drop, length-drop}
use lib.Seq.{get_or-drop, ext_get_or}
use Rattle.words.specs.Words.{unsigned_at}
use Rattle.words.proofs.Writing.{put_word_keeps, length-put_word}
use Rattle.entries.specs.declared.Form.{Form}
use Rattle.entries.specs.Layout.{HasContents, first_entry, entry_words, least_bytes, most_first, most_bytes, most_width, width_of}
use Rattle.entries.specs.Entries.{entry_word, kind_at, start_at, rows_at, due_at}
use Rattle.entries.proofs.Forms.{first_is, word_inside}
use Rattle.writing.specs.Contents.{most_written, put_count, put_entry, due_in, put_entries, put_contents, Writable}
use Rattle.writing.proofs.EntryWords.{count_put, count_keeps, length-put_entry, Outside, entry_keeps, entry_keeps_byte, kind_put, start_put, rows_put}
use Rattle.writing.proofs.EntryByEntry.{as_long, kind_small, rows_small, due_small, span_most}

-- a later entry's words come after an earlier one's
later : (words e d : ℕ) → e < d → words * e + words ≤ words * d
later words e d h = omega (arith, mul-suc words e, mul-le-mul_left words h)

module _ (f : Form) (s kinds rows : List ℕ) where
  -- entry d of those that are written
  abbrev next : List ℕ → ℕ → List ℕ
  next t d = put_entry f t d (get_or kinds d 0) (due_in f kinds rows d) (get_or rows d 0)

  -- what the entries from n on keep, one by one
  kept : {A : Type 0} (g : List ℕ → A) (n m : ℕ) → ((t : List ℕ) (d : ℕ) → n ≤ d → d < m + n → g (next t d) ≡ g t)
      → g (put_entries f s kinds rows (m + n)) ≡ g (put_entries f s kinds rows n)
  unfolding put_entries
  kept g n zero k = ap (λ (i : ℕ). g (put_entries f s kinds rows i)) (zero-add n)
  kept g n (suc m) k =
      ap (λ (i : ℕ). g (put_entries f s kinds rows i)) (suc-add m n)
      ∙ k (put_entries f s kinds rows (m + n)) (m + n) (omega arith) (omega arith)
      ∙ kept g n m (λ t d l h. k t d l (omega arith))

  -- and what all of them keep
  kept_all : {A : Type 0} (g : List ℕ → A) (n : ℕ) → ((t : List ℕ) (d : ℕ) → d < n → g (next t d) ≡ g t) → g (put_entries f s kinds rows n) ≡ g s
  unfolding put_entries
  kept_all g n k = ap (λ (i : ℕ). g (put_entries f s kinds rows i)) (sym (add-zero n)) ∙ kept g 0 n (λ t d l h. k t d (omega arith))

  length_entries : (n : ℕ) → length (put_entries f s kinds rows n) ≡ length s
  length_entries n = kept_all length n (λ t d h. length-put_entry f t d _ _ _)

  module _ (can : Writable f kinds rows) (has : HasContents f s) where
    -- ---- each body's start is a small number
    due_near : (e : ℕ) → e ≤ f.kinds → due_in f kinds rows e ≤ most_first + e * (most_bytes * most_width)
    unfolding due_in
    due_near zero h = omega (arith, first_is f has.small)
    due_near (suc e) h = omega (arith, due_near e (omega arith), span_most f kinds rows e can h (get_or kinds e 0) (width_of (get_or kinds e 0)) refl)

    -- ---- entry e, after all were written
    module _ (e : ℕ) (h : e < f.kinds) where
      abbrev before : List ℕ
      before = put_entries f s kinds rows e

      has_before : HasContents f before
      has_before = as_long f s before has (length_entries e)

      -- the entries after it keep its words
      word_kept : (j : ℕ) → j < entry_words → entry_word f (put_entries f s kinds rows f.kinds) e j ≡ entry_word f (next before e) e j
      unfolding put_entries
      word_kept j l =
          let all : f.kinds - suc e + suc e ≡ f.kinds = omega arith in
          ap (λ (n : ℕ). entry_word f (put_entries f s kinds rows n) e j) (sym all)
          ∙ kept (λ t. entry_word f t e j) (suc e) (f.kinds - suc e) (λ t d after k. entry_keeps f t d _ _ _ (f.words * e + first_entry + j) (λ i b. apart d after i))
        where
          apart : (d : ℕ) → e < d → (i : ℕ) → f.words * e + first_entry + j ≢ f.words * d + first_entry + i
          apart d after i = omega (arith, later f.words e d after, has.small.least)

      kind_read : kind_at f (put_entries f s kinds rows f.kinds) e ≡ get_or kinds e 0
      kind_read = word_kept 0 (lit< tt) ∙ kind_put f before e _ _ _ has_before h (kind_small f kinds rows e can h)

      start_read : start_at f (put_entries f s kinds rows f.kinds) e ≡ due_in f kinds rows e
      start_read =
          word_kept 1 (lit< tt)
          ∙ start_put f before e _ _ _ has_before h (due_small f kinds rows e can h s has _ (due_near e (omega arith)))

      rows_read : rows_at f (put_entries f s kinds rows f.kinds) e ≡ get_or rows e 0
      rows_read = word_kept 2 (lit< tt) ∙ rows_put f before e _ _ _ has_before h (rows_small f kinds rows e can h)

-- ---- the whole
module _ (f : Form) (s : List ℕ) (word : ℕ) (kinds rows : List ℕ) where
  abbrev written : List ℕ
  written = put_contents f s word kinds rows

  -- the sheet with its word 0
  abbrev named : List ℕ
  named = put_count s 0 word

  pub length-stays : length written ≡ length s
  unfolding put_contents
  length-stays = length_entries f named kinds rows f.kinds ∙ length-put_word s 0 _

  -- a word that is none of an entry's three
  word-stays : (j : ℕ) → ((d : ℕ) → d < f.kinds → Outside f d j) → unsigned_at written j ≡ unsigned_at named j
  unfolding put_contents
  word-stays j out = kept_all f named kinds rows (λ t. unsigned_at t j) f.kinds (λ t d h. entry_keeps f t d _ _ _ j (out d h))

  module _ (has : HasContents f s) where
    -- every byte after the contents
    pub bytes_stay : (q : ℕ) → least_bytes f ≤ q → get_or written q 0 ≡ get_or s q 0
    unfolding put_contents
    bytes_stay q h =
        kept_all f named kinds rows (λ t. get_or t q 0) f.kinds
        (λ t d l. entry_keeps_byte f t d _ _ _ q (λ i k. omega (arith, word_inside f has.small d l i k)))
        ∙ put_word_keeps s 0 _ q (omega arith)

    -- and so the bodies
    pub bodies_stay : drop (least_bytes f) written ≡ drop (least_bytes f) s
    bodies_stay =
        ext_get_or 0 (drop (least_bytes f) written) (drop (least_bytes f) s) (simp (length-drop, length-stays))
        (λ q h. get_or-drop (least_bytes f) written q 0 ∙ bytes_stay (least_bytes f + q) (omega arith) ∙ sym (get_or-drop (least_bytes f) s q 0))

    -- words of an entry past the third
    pub spare_stays : (e j : ℕ) → e < f.kinds → entry_words ≤ j → j < f.words → entry_word f written e j ≡ entry_word f s e j
    spare_stays e j h l m =
        word-stays (f.words * e + first_entry + j) (λ d k i b. apart d i b (dec_lt e d) (dec_lt d e))
        ∙ count_keeps s 0 word (f.words * e + first_entry + j) (omega arith)
      where
        apart : (d i : ℕ) → i < entry_words → Dec (e < d) → Dec (d < e) → f.words * e + first_entry + j ≢ f.words * d + first_entry + i
        apart d i b (yes p) q = omega (arith, later f.words e d p)
        apart d i b (no p) (yes q) = omega (arith, later f.words d e q)
        apart d i b (no p) (no q) = let same : d ≡ e = omega arith in rw same (omega arith)

    pub word_is : word ≤ most_written → unsigned_at written 0 ≡ word
    word_is small = word-stays 0 (λ d h i k. omega arith) ∙ count_put s 0 word (omega (arith, has.long)) small

    module _ (can : Writable f kinds rows) where
      has_named : HasContents f named
      has_named = as_long f s named has (length-put_word s 0 _)

      module _ (e : ℕ) (h : e < f.kinds) where
        pub kind_is : kind_at f written e ≡ get_or kinds e 0
        unfolding put_contents
        kind_is = kind_read f named kinds rows can has_named e h

        pub rows_is : rows_at f written e ≡ get_or rows e 0
        unfolding put_contents
        rows_is = rows_read f named kinds rows can has_named e h

        pub start_is : start_at f written e ≡ due_in f kinds rows e
        unfolding put_contents
        start_is = start_read f named kinds rows can has_named e h

      -- the check has each body start, and the last one end, where they were given their room
      pub due_is : (e : ℕ) → e ≤ f.kinds → due_at f written e ≡ due_in f kinds rows e
      unfolding due_at due_in
      due_is zero h = refl
      due_is (suc e) h = rw (due_is e (omega arith), kind_is e h, rows_is e h)

      pub starts_due : (e : ℕ) → e < f.kinds → start_at f written e ≡ due_at f written e
      starts_due e h = start_is e h ∙ sym (due_is e (omega arith))
