-- The entries of the contents, and where each kind's body lies. Entries count from 0 here.
-- Word 0, kind, start and rows are read without a sign. A negative word reads as 2³¹ or more, and so is refused as any other wrong one: it names no form and no kind, is above every
-- limit of rows, and past every word at which a body may start, since no body ends past word 10,153.
use Rattle.std.specs.Prelude.{Bool, false, cond, ◌||◌, List, ℕ, zero, suc, ◌+◌, ◌-◌, ◌*◌, ◌≤◌, eqb}
use Rattle.words.specs.Words.{unsigned_at}
use Rattle.words.specs.Parts.{part_of}
use Rattle.entries.specs.declared.Form.{Form}
use Rattle.entries.specs.declared.Place.{Place}
use Rattle.entries.specs.declared.Places.{Places}
use Rattle.entries.specs.Layout.{form_named, first_entry, first_body, width_of, usual_step, zone, latitude, longitude, northing, easting, scale}

-- ---- the entries of a form: "each three words: kind, start (a word number), rows", after word 0
abbrev pub entry_word : Form → List ℕ → ℕ → ℕ → ℕ
entry_word f s e j = unsigned_at s (f.words * e + first_entry + j)

abbrev pub kind_at : Form → List ℕ → ℕ → ℕ
kind_at f s e = entry_word f s e 0

abbrev pub start_at : Form → List ℕ → ℕ → ℕ
start_at f s e = entry_word f s e 1

abbrev pub rows_at : Form → List ℕ → ℕ → ℕ
rows_at f s e = entry_word f s e 2

-- The step of entry e's table: the usual one of its kind.
abbrev pub step_at : Form → List ℕ → ℕ → ℕ
step_at f s e = usual_step (kind_at f s e)

-- The words of entry e's body: its rows times the words in a row.
abbrev pub span_at : Form → List ℕ → ℕ → ℕ
span_at f s e = rows_at f s e * width_of (kind_at f s e)

-- One of the first n entries names the kind.
unfoldable pub named : Form → List ℕ → ℕ → ℕ → Bool
named f s kind zero = false
named f s kind (suc n) = eqb (kind_at f s n) kind || named f s kind n

-- The word at which entry e's body has to start: "The first body starts at word 19, each next one where the last ended". After the last entry, where the bodies end.
unfoldable pub due_at : Form → List ℕ → ℕ → ℕ
due_at f s zero = first_body f
due_at f s (suc e) = due_at f s e + span_at f s e

-- Which of the first n entries names the kind: the last that does, and 0 where none does. In contents without a fault exactly one names each of the form's kinds.
unfoldable pub entry_of : Form → List ℕ → ℕ → ℕ → ℕ
entry_of f s kind zero = 0
entry_of f s kind (suc n) = cond (eqb (kind_at f s n) kind) n (entry_of f s kind n)

-- ---- a sheet of the form that its word 0 names
abbrev pub form_of : List ℕ → Form
form_of s = form_named (unsigned_at s 0)

abbrev pub kinds_of : List ℕ → ℕ
kinds_of s = (form_of s).kinds

-- The entry that names the kind.
unfoldable pub the_entry : List ℕ → ℕ → ℕ
the_entry s kind = entry_of (form_of s) s kind (kinds_of s)

-- The word at which the kind's body starts, its rows, and the step from a row to the next.
unfoldable pub start_of : List ℕ → ℕ → ℕ
start_of s kind = start_at (form_of s) s (the_entry s kind)

unfoldable pub rows_of : List ℕ → ℕ → ℕ
rows_of s kind = rows_at (form_of s) s (the_entry s kind)

unfoldable pub step_of : List ℕ → ℕ → ℕ
step_of s kind = step_at (form_of s) s (the_entry s kind)

-- Where the kind's last row stands, counted from row 0.
unfoldable pub last_of : List ℕ → ℕ → ℕ
last_of s kind = (rows_of s kind - 1) * step_of s kind

-- The offset, counted from row 0, lies within the kind's table: it is not past the last row.
pub record Within (s : List ℕ) (kind offset : ℕ) : Type 0 where
  pub most : offset ≤ last_of s kind

-- The kind's body: the part of the sheet that holds its rows.
unfoldable pub body_of : List ℕ → ℕ → List ℕ
body_of s kind = part_of s (start_of s kind) (rows_of s kind * width_of kind)

-- Where the kind's body lies; below, where all six lie.
abbrev pub place_of : List ℕ → ℕ → Place
place_of s kind = record { start = start_of s kind; rows = rows_of s kind; step = step_of s kind }

unfoldable pub places_of : List ℕ → Places
places_of s = record {
  zone = place_of s zone;
  latitude = place_of s latitude;
  longitude = place_of s longitude;
  northing = place_of s northing;
  easting = place_of s easting;
  scale = place_of s scale;
}
