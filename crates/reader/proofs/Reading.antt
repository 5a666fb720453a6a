-- The reader's ways out: an entry or none at a place, and by an entry's number. Assumes nothing.
use mathlib.Core.Path.{◌≡◌, refl}
use mathlib.Core.Bool.{Bool, true, false}
use mathlib.Core.List.{List}
use Prim.Native.Nat.{ℕ, ◌+◌, ◌*◌, ◌≤◌, ◌<◌}
use native.Mathlib.Omega.{arith}
use lib.Dec.{ltb}
use lib.ListN.{length}
use borrow.Author.Tests.{le-leb, lt-leb, lt-ltb, le-ltb}
use Rattle.words.specs.Words.{unsigned_at}
use Rattle.refusals.specs.Ladder.{need}
use Rattle.entries.specs.declared.Form.{Form}
use Rattle.entries.specs.Layout.{entry_words, first_entry}
use Rattle.entries.specs.Entries.{form_of}
use Rattle.reader.specs.declared.Entry.{Entry}
use Rattle.std.specs.Prelude.{Option, Some, None}
use Rattle.reader.specs.Read.{entry, entry_at, entry_numbered}

module _ (s : List ℕ) where
  -- at a place
  pub ends_at : (place : ℕ) → length s < 4 * (place + entry_words) → None ≡ entry_at s place
  unfolding entry_at need
  ends_at place h = rw (lt-leb (4 * (place + entry_words)) (length s) h)

  pub entry_is : (place k t r : ℕ) → 4 * (place + entry_words) ≤ length s → k ≡ unsigned_at s place → t ≡ unsigned_at s (place + 1) → r ≡ unsigned_at s (place + 2) → Some (entry k t r) ≡ entry_at s place
  unfolding entry_at need
  entry_is place k t r h ek et er = rw (le-leb (4 * (place + entry_words)) (length s) h, ek, et, er)

  -- by its number
  pub no_word : (e : ℕ) → length s < 4 → None ≡ entry_numbered s e
  unfolding entry_numbered need
  no_word e h = rw (lt-leb (4 * ((form_of s).words * e + first_entry + entry_words)) (length s) (omega arith)) (pick (ltb e (form_of s).kinds))
    where
      pick : (b : Bool) → ◌≡◌ {A = Option Entry} None (need b None None)
      pick true = refl
      pick false = refl

  module _ (f : Form) (its : f ≡ form_of s) where
    pub past-last : (e : ℕ) → f.kinds ≤ e → None ≡ entry_numbered s e
    unfolding entry_numbered need
    past-last e h = rw (le-ltb e (form_of s).kinds (rw its at h))

    pub numbered_is : (e : ℕ) (t : Option Entry) → e < f.kinds → t ≡ entry_at s (f.words * e + first_entry) → t ≡ entry_numbered s e
    unfolding entry_numbered entry_at need
    numbered_is e t h q =
        let first : (form_of s).words * e + first_entry + 0 ≡ (form_of s).words * e + first_entry = omega arith in
        rw (lt-ltb e (form_of s).kinds (rw its at h), first) (rw its at q)
