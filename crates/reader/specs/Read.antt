-- What the reader of contents reads: "each three words: kind, start (a word number), rows". s is the sheet.
use Rattle.std.specs.Prelude.{List, ℕ, ◌+◌, ◌*◌, leb, ltb, length, Option, Some, None}
use Rattle.words.specs.Words.{unsigned_at}
use Rattle.refusals.specs.Ladder.{need}
use Rattle.entries.specs.Layout.{entry_words, first_entry}
use Rattle.entries.specs.Entries.{kind_at, start_at, rows_at, form_of}
use Rattle.reader.specs.declared.Entry.{Entry}

abbrev pub entry : ℕ → ℕ → ℕ → Entry
entry kind start rows = record { kind = kind; start = start; rows = rows }

-- The entry whose first word is at the place, which may be any word of the sheet, behind the contents too; words are read without a sign, as the check reads the contents.
-- None where the sheet has no three words there.
unfoldable pub entry_at : List ℕ → ℕ → Option Entry
entry_at s place =
    need (leb (4 * (place + entry_words)) (length s)) None
    (Some (entry (unsigned_at s place) (unsigned_at s (place + 1)) (unsigned_at s (place + 2))))

-- "Six entries follow": entry e, counted from 0, of the form that word 0 names, by the words that the check reads. A word 0 that names no form is not refused here. None past the
-- last entry, and where the sheet has no three words there.
unfoldable pub entry_numbered : List ℕ → ℕ → Option Entry
entry_numbered s e =
    need (ltb e (form_of s).kinds) None
    (need (leb (4 * ((form_of s).words * e + first_entry + entry_words)) (length s)) None
    (Some (entry (kind_at (form_of s) s e) (start_at (form_of s) s e) (rows_at (form_of s) s e))))
