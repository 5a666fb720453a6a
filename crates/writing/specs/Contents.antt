-- The table of contents written: "A table of contents comes first, then the bodies." s is the sheet, f the form of its contents, and e an entry, counted from 0. The lists have
-- each entry's kind and each entry's rows.
use Rattle.std.specs.Prelude.{◌≡◌, List, ℕ, zero, suc, ◌+◌, ◌*◌, ◌<◌, ◌≤◌, pos, length, get_or}
use Rattle.words.specs.Words.{put_word}
use Rattle.entries.specs.declared.Form.{Form}
use Rattle.entries.specs.Layout.{first_entry, first_body, most_kinds, most_bytes, width_of}

-- The most that a size, such as a kind, a start or rows, may be as a word: below 2³¹ it reads the same with a sign and without one.
abbrev pub most_written : ℕ
most_written = 2_147_483_647

-- The sheet with the size n as word i.
abbrev pub put_count : List ℕ → ℕ → ℕ → List ℕ
put_count s i n = put_word s i (pos n)

-- Entry e: "each three words: kind, start (a word number), rows". Words of an entry past the third stay.
unfoldable pub put_entry : Form → List ℕ → ℕ → ℕ → ℕ → ℕ → List ℕ
put_entry f s e kind start rows = put_count (put_count (put_count s (f.words * e + first_entry) kind) (f.words * e + first_entry + 1) start) (f.words * e + first_entry + 2) rows

-- The word at which entry e's body starts: "The first body starts at word 19, each next one where the last ended".
unfoldable pub due_in : Form → List ℕ → List ℕ → ℕ → ℕ
due_in f kinds rows zero = first_body f
due_in f kinds rows (suc e) = due_in f kinds rows e + get_or rows e 0 * width_of (get_or kinds e 0)

-- The first n entries.
unfoldable pub put_entries : Form → List ℕ → List ℕ → List ℕ → ℕ → List ℕ
put_entries f s kinds rows zero = s
put_entries f s kinds rows (suc n) = put_entry f (put_entries f s kinds rows n) n (get_or kinds n 0) (due_in f kinds rows n) (get_or rows n 0)

-- "Word 0 is 6. Six entries follow": word 0, which names the form, and then its entries. The bodies stay.
unfoldable pub put_contents : Form → List ℕ → ℕ → List ℕ → List ℕ → List ℕ
put_contents f s word kinds rows = put_entries f (put_count s 0 word) kinds rows f.kinds

-- What may be written: a kind and rows for each entry, and in no entry more rows than a sheet may have bytes, a wide bound by which every start fits a word. Whether the sheet then
-- passes is not asked here, nor whether word 0 names the form f: that is for the caller to see to.
pub record Writable (f : Form) (kinds rows : List ℕ) : Type 0 where
  pub all_kinds : length kinds ≡ f.kinds
  pub all_rows : length rows ≡ f.kinds
  pub known : (e : ℕ) → e < f.kinds → get_or kinds e 0 ≤ most_kinds
  pub few : (e : ℕ) → e < f.kinds → get_or rows e 0 ≤ most_bytes
