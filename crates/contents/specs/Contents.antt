-- The first fault of length, word 0, the entries and the end: numbers 1 to 5.
use Prim.{Unit}
use Rattle.std.specs.Prelude.{Bool, not, ◌&&◌, List, ◌≡◌, ℕ, ◌+◌, ◌*◌, ◌%◌, ◌≤◌, leb, eqb, length, Result, Ok, Err, Option, Some, None}
use Rattle.words.specs.Words.{unsigned_at}
use Rattle.refusals.specs.Ladder.{need, or_else}
use Rattle.refusals.specs.Numbers.{number_of as refusal_number}
use Rattle.refusals.specs.Faults.{Fault, first_fault}
use Rattle.contents.specs.declared.Refused.{Refused}
use Rattle.entries.specs.declared.Form.{Form}
use Rattle.entries.specs.declared.Place.{Place}
use Rattle.entries.specs.Layout.{least_bytes, most_bytes, names_form, last_kind, least_rows, most_rows}
use Rattle.entries.specs.Entries.{kind_at, start_at, rows_at, named, due_at, form_of, place_of}

-- "The check answers number, kind, row."
pub record Verdict : Type 0 where
  pub number : ℕ
  pub kind : ℕ
  pub row : ℕ

abbrev pub verdict : ℕ → ℕ → ℕ → Verdict
verdict number kind row = record { number = number; kind = kind; row = row }

abbrev pub number_of : Verdict → ℕ
number_of v = v.number

-- What code answers, as the check's number, kind and row. "A pass is 0 0 0."
abbrev pub verdict_told : Result (Unit {0}) Refused → Verdict
verdict_told (Ok u) = verdict 0 0 0
verdict_told (Err r) = verdict (refusal_number r.refusal) r.kind r.row

-- The same of what was refused, if anything was: number, kind, row.
abbrev pub numbers_of : Option Refused → ℕ × ℕ × ℕ
numbers_of None = (0, 0, 0)
numbers_of (Some r) = (refusal_number r.refusal, r.kind, r.row)

-- n is from least to most.
unfoldable pub within : ℕ → ℕ → ℕ → Bool
within least n most = leb least n && leb n most

-- "each entry by 2, 3, 4, start": 2 "kind not 1 to 6"; 3 "kind named by an earlier entry"; 4 "rows outside the kind's limits"; 5 "body start wrong".
-- The number of entry e's fault, 0 for none. It is asked only where the entries before it have none: due_at counts on their rows.
unfoldable pub entry_fault : Form → List ℕ → ℕ → ℕ
entry_fault f s e =
    need (within 1 (kind_at f s e) f.kinds) 2
    (need (not (named f s (kind_at f s e) e)) 3
    (need (within (least_rows (kind_at f s e)) (rows_at f s e) (most_rows (kind_at f s e))) 4
    (need (eqb (start_at f s e) (due_at f s e)) 5
    0)))

-- Whether the bodies' end is the sheet's end: "the final body ends the sheet". If it is not, and no entry has a fault, 5 is due.
abbrev pub ends : Form → List ℕ → Bool
ends f s = eqb (4 * due_at f s f.kinds) (length s)

-- "kind 0 and the entry's place counted from 1"
abbrev pub in_entries : Fault → Verdict
in_entries g = verdict g.number 0 (g.place + 1)

-- "each entry by 2, 3, 4, start; the end": "kind 0 and the entry's place counted from 1 (.. one past the last entry for the end)".
unfoldable pub contents_by : Form → List ℕ → Verdict
contents_by f s =
    or_else number_of (in_entries (first_fault (entry_fault f s) f.kinds 0))
    (need (ends f s) (verdict 5 0 (f.kinds + 1))
    (verdict 0 0 0))

-- False exactly where 1 is due: "sheet under 76 bytes, over 65,532, or not a multiple of 4". 76 bytes are the contents of today's form.
unfoldable pub sized : List ℕ → Bool
sized s = within (least_bytes (form_of s)) (length s) most_bytes && eqb (length s % 4) 0

-- "Order: 1; word 0; each entry by 2, 3, 4, start; the end". A fault of length or word 0 answers kind 0 and row 0; "word 0 not 6" is number 2.
unfoldable pub contents_of : List ℕ → Verdict
contents_of s =
    need (sized s) (verdict 1 0 0)
    (need (names_form (unsigned_at s 0)) (verdict 2 0 0)
    (contents_by (form_of s) s))

-- The contents have no fault, the kind is one of today's six, and p is the place of its body: what cutting the body out of the sheet asks for.
pub record Placed (s : List ℕ) (kind : ℕ) (p : Place) : Type 0 where
  pub contents : (contents_of s).number ≡ 0
  pub place : p ≡ place_of s kind
  pub least : 1 ≤ kind
  pub most : kind ≤ last_kind
