-- The contents depend on the sheet's length and on its first words alone: two sheets that agree in these have the same first fault, and the same place for each kind's body.
-- Assumes nothing.
use mathlib.Core.Path.{◌≡◌, refl, ap, ◌∙◌}
use mathlib.Core.List.{List}
use Prim.Native.Nat.{ℕ, zero, suc, ◌+◌, ◌*◌, ◌<◌, ◌≤◌}
use native.Mathlib.Nat.{zero-add}
use native.Mathlib.Omega.{arith}
use lib.Dec.{lit<}
use lib.ListN.{length}
use Rattle.words.specs.Words.{unsigned_at}
use Rattle.refusals.specs.Faults.{first_fault}
use Rattle.refusals.proofs.FirstFault.{same_faults}
use Rattle.entries.specs.declared.Form.{Form}
use Rattle.entries.specs.Layout.{Small, form_named, first_body, usual_step}
use Rattle.entries.specs.Entries.{entry_word, kind_at, start_at, rows_at, step_at, named, due_at, entry_of, form_of, kinds_of, the_entry, start_of, rows_of, step_of}
use Rattle.contents.specs.Contents.{entry_fault, sized, contents_by, contents_of}
use Rattle.entries.proofs.Forms.{form_small, word_inside}

module _ (f : Form) (small : Small f) (s t : List ℕ) (words : (i : ℕ) → i < first_body f → unsigned_at t i ≡ unsigned_at s i) where
  -- ---- an entry's words
  module _ (e : ℕ) (h : e < f.kinds) where
    same_word : (j : ℕ) → j < 3 → entry_word f t e j ≡ entry_word f s e j
    same_word j l = words (f.words * e + 1 + j) (word_inside f small e h j l)

    same_kind : kind_at f t e ≡ kind_at f s e
    same_kind = same_word 0 (lit< tt)

    same_start : start_at f t e ≡ start_at f s e
    same_start = same_word 1 (lit< tt)

    same_rows : rows_at f t e ≡ rows_at f s e
    same_rows = same_word 2 (lit< tt)

  -- ---- what goes over the entries
  same-named : (kind n : ℕ) → n ≤ f.kinds → named f t kind n ≡ named f s kind n
  unfolding named
  same-named kind zero h = refl
  same-named kind (suc n) h = rw (same_kind n (omega arith), same-named kind n (omega arith))

  same_due : (e : ℕ) → e ≤ f.kinds → due_at f t e ≡ due_at f s e
  unfolding due_at
  same_due zero h = refl
  same_due (suc e) h = rw (same_due e (omega arith), same_rows e (omega arith), same_kind e (omega arith))

  same_entry : (kind n : ℕ) → n ≤ f.kinds → entry_of f t kind n ≡ entry_of f s kind n
  unfolding entry_of
  same_entry kind zero h = refl
  same_entry kind (suc n) h = rw (same_kind n (omega arith), same_entry kind n (omega arith))

  same-fault : (e : ℕ) → e < f.kinds → entry_fault f t e ≡ entry_fault f s e
  unfolding entry_fault
  same-fault e h = rw (same_kind e h, same-named (kind_at f s e) e (omega arith), same_rows e h, same_start e h, same_due e (omega arith))

  first_fault_lem : first_fault (entry_fault f t) f.kinds 0 ≡ first_fault (entry_fault f s) f.kinds 0
  first_fault_lem = same_faults (entry_fault f t) (entry_fault f s) f.kinds 0 (λ e h. rw zero-add (same-fault e h))

  same_by : length t ≡ length s → contents_by f t ≡ contents_by f s
  unfolding contents_by
  same_by long = rw (long, first_fault_lem, same_due f.kinds (omega arith))

module _ (s t : List ℕ) (words : (i : ℕ) → i < first_body (form_of s) → unsigned_at t i ≡ unsigned_at s i) where
  small : Small (form_of s)
  small = form_small (unsigned_at s 0)

  word_0 : unsigned_at t 0 ≡ unsigned_at s 0
  word_0 = words 0 (omega arith)

  -- ---- the whole
  pub same-contents : length t ≡ length s → contents_of t ≡ contents_of s
  unfolding contents_of sized
  same-contents long = rw (word_0, long, same_by (form_of s) small s t words long)

  -- ---- where each kind's body lies, for a kind that an entry names
  module _ (kind : ℕ) (there : the_entry s kind < kinds_of s) where
    entry_same : the_entry t kind ≡ the_entry s kind
    unfolding the_entry
    entry_same =
        ap (λ (w : ℕ). entry_of (form_named w) t kind (form_named w).kinds) word_0 ∙ same_entry (form_of s) small s t words kind (kinds_of s) (omega arith)

    -- what is read at the entry
    at_entry : (at : Form → List ℕ → ℕ → ℕ) → at (form_of s) t (the_entry s kind) ≡ at (form_of s) s (the_entry s kind) → at (form_of t) t (the_entry t kind) ≡ at (form_of s) s (the_entry s kind)
    at_entry at q = ap (λ (w : ℕ). at (form_named w) t (the_entry t kind)) word_0 ∙ ap (at (form_of s) t) entry_same ∙ q

    pub start_same : start_of t kind ≡ start_of s kind
    unfolding start_of
    start_same = at_entry start_at (same_start (form_of s) small s t words (the_entry s kind) there)

    pub rows_same : rows_of t kind ≡ rows_of s kind
    unfolding rows_of
    rows_same = at_entry rows_at (same_rows (form_of s) small s t words (the_entry s kind) there)

    pub step_same : step_of t kind ≡ step_of s kind
    unfolding step_of
    step_same = at_entry step_at (ap usual_step (same_kind (form_of s) small s t words (the_entry s kind) there))
