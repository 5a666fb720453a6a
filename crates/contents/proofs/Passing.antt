-- What a sheet whose contents have no fault has: each kind has its rows, within its limits, and each body lies within the sheet. Assumes nothing.
use mathlib.Core.Path.{◌≡◌, refl, ap, ◌∙◌}
use mathlib.Core.Bool.{Bool, true, false}
use mathlib.Core.List.{List}
use Prim.Native.Nat.{ℕ, zero, suc, ◌+◌, ◌*◌, ◌-◌, ◌%◌, ◌<◌, ◌≤◌}
use native.Mathlib.Nat.{zero-add, suc-add, le_trans}
use native.Mathlib.Omega.{arith}
use lib.Dec.{eqb, lit<}
use lib.ListN.{length}
use borrow.Author.Tests.{eq-eqb, eqb-true, not-true}
use Rattle.words.specs.Words.{unsigned_at}
use Rattle.refusals.specs.Ladder.{need, or_else}
use Rattle.refusals.specs.Faults.{first_fault}
use Rattle.refusals.proofs.FirstFault.{all_pass}
use Rattle.words.proofs.PartWords.{length-part_of}
use Rattle.refusals.proofs.Ladders.{rung, past, each_passes}
use Rattle.entries.specs.declared.Form.{Form}
use Rattle.entries.specs.Layout.{Small, most_kinds, last_kind, first_body, least_bytes, most_bytes, names_form, width_of, least_rows, most_rows, usual_step}
use Rattle.entries.specs.Entries.{kind_at, start_at, rows_at, span_at, named, due_at, form_of, kinds_of, the_entry, start_of, rows_of, step_of, body_of}
use Rattle.contents.specs.Contents.{sized, ends, verdict, number_of, in_entries, entry_fault, contents_by, contents_of}
use Rattle.contents.proofs.Limits.{within-true, sized-true}
use Rattle.entries.proofs.ByKind.{by_kind}
use Rattle.entries.proofs.Spans.{due_next}
use Rattle.entries.proofs.EachKind.{each_kind}
use Rattle.entries.proofs.Forms.{all_kinds}

-- ---- an entry
pub record Entry (f : Form) (s : List ℕ) (e : ℕ) : Type 0 where
  pub low : 1 ≤ kind_at f s e
  pub high : kind_at f s e ≤ f.kinds
  pub fresh : named f s (kind_at f s e) e ≡ false
  pub least : least_rows (kind_at f s e) ≤ rows_at f s e
  pub most : rows_at f s e ≤ most_rows (kind_at f s e)
  pub start : start_at f s e ≡ due_at f s e

module _ (f : Form) (s : List ℕ) where
  pub entry : (e : ℕ) → entry_fault f s e ≡ 0 → Entry f s e
  unfolding entry_fault
  entry e z =
      let a = rung _ 2 _ (λ q. omega arith) z in
      let b = rung _ 3 _ (λ q. omega arith) a.1 in
      let c = rung _ 4 _ (λ q. omega arith) b.1 in
      let d = rung _ 5 _ (λ q. omega arith) c.1 in
      let k = within-true _ _ _ a.0 in
      let r = within-true _ _ _ c.0 in
      record { low = k.0; high = k.1; fresh = not-true _ b.0; least = r.0; most = r.1; start = eqb-true _ _ d.0 }

  each : (first_fault (entry_fault f s) f.kinds 0).number ≡ 0 → (e : ℕ) → e < f.kinds → Entry f s e
  each none e h = entry e (rw zero-add at (all_pass (entry_fault f s) f.kinds 0 none e h))

  -- where a body is due, no later one is due before
  pub due_rises : (e d : ℕ) → due_at f s e ≤ due_at f s (d + e)
  unfolding due_at
  due_rises e zero = omega (arith, ap (due_at f s) (zero-add e))
  due_rises e (suc d) = omega (arith, due_rises e d, ap (due_at f s) (suc-add d e))

-- ---- the end, in the shape of the code's needs
module _ (f : Form) (s : List ℕ) (small : Small f) (none : (first_fault (entry_fault f s) f.kinds 0).number ≡ 0) where
  pub last-known : kind_at f s (f.kinds - 1) ≤ most_kinds
  last-known = le_trans (each f s none (f.kinds - 1) (omega (arith, small.some))).high small.few

  pub end_is : (a b : ℕ) (t : Bool) → a ≡ start_at f s (f.kinds - 1) → b ≡ span_at f s (f.kinds - 1) → t ≡ eqb (4 * (a + b)) (length s) → t ≡ ends f s
  end_is a b t p q e =
      let last : f.kinds - 1 + 1 ≡ f.kinds = omega (arith, small.some) in
      let due = due_next f s (f.kinds - 1) a b (p ∙ (each f s none (f.kinds - 1) (omega (arith, small.some))).start) q in
      e ∙ ap (λ (n : ℕ). eqb (4 * n) (length s)) (due ∙ ap (due_at f s) last)

-- ---- the whole of the contents
pub record PassedBy (f : Form) (s : List ℕ) : Type 0 where
  pub entries : (e : ℕ) → e < f.kinds → Entry f s e
  pub end : 4 * due_at f s f.kinds ≡ length s

pub record Passed (s : List ℕ) : Type 0 where
  pub long : least_bytes (form_of s) ≤ length s
  pub short : length s ≤ most_bytes
  pub whole : length s % 4 ≡ 0
  pub named : names_form (unsigned_at s 0) ≡ true
  pub by : PassedBy (form_of s) s

module _ (f : Form) (s : List ℕ) where
  -- each test of the contents, as a number
  tests_by : (contents_by f s).number ≡ 0 → ((first_fault (entry_fault f s) f.kinds 0).number ≡ 0) × (ends f s ≡ true)
  unfolding contents_by need
  tests_by z = pick (ends f s) refl (each_passes number_of (in_entries (first_fault (entry_fault f s) f.kinds 0)) (need (ends f s) (verdict 5 0 (f.kinds + 1)) (verdict 0 0 0)) z)
    where
      pick : (d : Bool) → ends f s ≡ d → ((first_fault (entry_fault f s) f.kinds 0).number ≡ 0) × ((need d (verdict 5 0 (f.kinds + 1)) (verdict 0 0 0)).number ≡ 0)
          → ((first_fault (entry_fault f s) f.kinds 0).number ≡ 0) × (ends f s ≡ true)
      pick true r z = (z.0, r)
      pick false r z = absurd (omega (arith, z.1))

  pub passed_by : (contents_by f s).number ≡ 0 → PassedBy f s
  passed_by z = let t = tests_by z in record { entries = each f s t.0; end = eqb-true (4 * due_at f s f.kinds) (length s) t.1 }

  pub by_pass : (contents_by f s).number ≡ 0 → contents_by f s ≡ verdict 0 0 0
  unfolding contents_by or_else
  by_pass z =
      let t = tests_by z in
      rw (eq-eqb (first_fault (entry_fault f s) f.kinds 0).number 0 t.0, past (verdict 5 0 (f.kinds + 1)) (verdict 0 0 0) t.1)

module _ (s : List ℕ) where
  tests : (contents_of s).number ≡ 0 → (sized s ≡ true) × (names_form (unsigned_at s 0) ≡ true) × ((contents_by (form_of s) s).number ≡ 0)
  unfolding contents_of need
  tests z = pick (sized s) (names_form (unsigned_at s 0)) refl refl z
    where
      pick : (a b : Bool) → sized s ≡ a → names_form (unsigned_at s 0) ≡ b → (need a (verdict 1 0 0) (need b (verdict 2 0 0) (contents_by (form_of s) s))).number ≡ 0
          → (sized s ≡ true) × (names_form (unsigned_at s 0) ≡ true) × ((contents_by (form_of s) s).number ≡ 0)
      pick false b p q z = absurd (omega arith)
      pick true false p q z = absurd (omega arith)
      pick true true p q z = (p, q, z)

  pub passed : (contents_of s).number ≡ 0 → Passed s
  passed z =
      let t = tests z in
      let n = sized-true s t.0 in
      record { long = n.0; short = n.1; whole = n.2; named = t.1; by = passed_by (form_of s) s t.2 }

  -- number 0 is a pass: 0 0 0
  pub contents_pass : (contents_of s).number ≡ 0 → contents_of s ≡ verdict 0 0 0
  unfolding contents_of
  contents_pass z = let t = tests z in rw (past (verdict 1 0 0) _ t.0, past (verdict 2 0 0) _ t.1) (by_pass (form_of s) s t.2)

-- ---- each kind's body
module _ (s : List ℕ) (z : (contents_of s).number ≡ 0) (k : ℕ) (l : 1 ≤ k) (h : k ≤ kinds_of s) where
  -- the entry that names it
  pub its_entry : (the_entry s k < kinds_of s) × (kind_at (form_of s) s (the_entry s k) ≡ k)
  unfolding the_entry
  its_entry =
      let p = (passed s z).by in
      each_kind (form_of s) s (kinds_of s) (λ e h. ((p.entries e h).low, (p.entries e h).high)) (λ e h. (p.entries e h).fresh) k l h

  its : Entry (form_of s) s (the_entry s k)
  its = (passed s z).by.entries (the_entry s k) its_entry.0

  pub least_rows_lem : least_rows k ≤ rows_of s k
  unfolding rows_of
  least_rows_lem = rw its_entry.1 at its.least

  pub most_rows_lem : rows_of s k ≤ most_rows k
  unfolding rows_of
  most_rows_lem = rw its_entry.1 at its.most

  pub step_is : step_of s k ≡ usual_step k
  unfolding step_of
  step_is = rw its_entry.1

  -- it starts after the contents
  pub after-contents : first_body (form_of s) ≤ start_of s k
  unfolding start_of
  after-contents =
      let first : due_at (form_of s) s 0 ≡ first_body (form_of s) = unfold due_at in refl in
      let zero-on : the_entry s k + 0 ≡ the_entry s k = omega arith in
      omega (arith, its.start, first, rw zero-on at (due_rises (form_of s) s 0 (the_entry s k)))

  -- and ends within the sheet
  pub within_sheet : 4 * (start_of s k + rows_of s k * width_of k) ≤ length s
  unfolding start_of rows_of
  within_sheet = inside (the_entry s k) its_entry.0 its_entry.1
    where
      inside : (e : ℕ) → e < kinds_of s → kind_at (form_of s) s e ≡ k → 4 * (start_at (form_of s) s e + rows_at (form_of s) s e * width_of k) ≤ length s
      inside e lt q =
          let p = (passed s z).by in
          let due : start_at (form_of s) s e + rows_at (form_of s) s e * width_of k ≡ due_at (form_of s) s (suc e) = unfold due_at in cc (p.entries e lt).start in
          let all : kinds_of s - suc e + suc e ≡ kinds_of s = omega arith in
          omega (arith, p.end, rw all at (due_rises (form_of s) s (suc e) (kinds_of s - suc e)))

-- ---- of the kinds that every sheet has
least-some : (k : ℕ) → 1 ≤ k → k ≤ last_kind → 0 < least_rows k
least-some = by_kind (λ (k : ℕ). 0 < least_rows k) (lit< tt) (lit< tt) (lit< tt) (lit< tt) (lit< tt) (lit< tt)

module _ (s : List ℕ) (z : (contents_of s).number ≡ 0) (k : ℕ) (l : 1 ≤ k) (h : k ≤ last_kind) where
  pub there : k ≤ kinds_of s
  there = le_trans h (all_kinds (unsigned_at s 0))

  pub rows_least : least_rows k ≤ rows_of s k
  rows_least = least_rows_lem s z k l there

  pub rows_some : 0 < rows_of s k
  rows_some = omega (arith, rows_least, least-some k l h)

  pub rows_most : rows_of s k ≤ most_rows k
  rows_most = most_rows_lem s z k l there

  pub step_usual : step_of s k ≡ usual_step k
  step_usual = step_is s z k l there

  pub body_after : first_body (form_of s) ≤ start_of s k
  body_after = after-contents s z k l there

  pub body_within : 4 * (start_of s k + rows_of s k * width_of k) ≤ length s
  body_within = within_sheet s z k l there

  -- so its part has all its rows
  pub body_length : length (body_of s k) ≡ 4 * (rows_of s k * width_of k)
  unfolding body_of
  body_length = length-part_of s (start_of s k) (rows_of s k * width_of k) body_within
