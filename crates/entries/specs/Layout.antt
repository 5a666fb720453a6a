-- How a sheet is laid out: "A table of contents comes first, then the bodies." This file is the one table of it: the forms by word 0, and by kind the words in a row, the limits of
-- rows and the step. Everywhere else these numbers go by their names.
use Rattle.std.specs.Prelude.{Bool, List, [], ◌∷◌, ℕ, ◌+◌, ◌-◌, ◌*◌, ◌≤◌, eqb, get_or, length}
use Rattle.entries.specs.declared.Form.{Form}

-- ---- the forms
-- A form of the contents: its kinds, each of which has one entry, and the words of an entry.
abbrev pub form : ℕ → ℕ → Form
form kinds words = record { kinds = kinds; words = words }

-- Whether word 0 names a form: "Word 0 is 6."
abbrev pub names_form : ℕ → Bool
names_form word = eqb word 6

-- The form that word 0 names: "Six entries follow, each three words: kind, start (a word number), rows". There is one form, so the word is not looked at. A sheet
-- whose word 0 names no form is first held to this form's least length (1), and then refused by 2.
unfoldable pub form_named : ℕ → Form
form_named word = form 6 3

-- The entries come after word 0.
abbrev pub first_entry : ℕ
first_entry = 1

-- The words that every entry begins with: kind, start, rows.
abbrev pub entry_words : ℕ
entry_words = 3

-- The most kinds of a form, and the most words of an entry: bounds for those who read entries. Today's entry has three words; a fourth is left for a later form.
abbrev pub most_kinds : ℕ
most_kinds = 6

abbrev pub most_words : ℕ
most_words = 4

-- Bounds that every form keeps, also one with fewer kinds.
pub record Small (f : Form) : Type 0 where
  pub some : 1 ≤ f.kinds
  pub few : f.kinds ≤ most_kinds
  pub least : entry_words ≤ f.words
  pub most : f.words ≤ most_words

-- The first body comes after word 0 and the entries: "The first body starts at word 19". "Where a later form's contents differ in length, its first body follows them and number 1's
-- least length is theirs."
abbrev pub first_body : Form → ℕ
first_body f = f.words * f.kinds + first_entry

-- "sheet under 76 bytes, over 65,532": the least is the contents alone.
abbrev pub least_bytes : Form → ℕ
least_bytes f = 4 * first_body f

abbrev pub most_bytes : ℕ
most_bytes = 65_532

-- No form's first body starts past this word.
abbrev pub most_first : ℕ
most_first = most_words * most_kinds + first_entry

-- f keeps what every form keeps, and the sheet is at least as long as f's contents: what reading an entry asks for.
pub record HasContents (f : Form) (s : List ℕ) : Type 0 where
  pub small : Small f
  pub long : least_bytes f ≤ length s

-- ---- the kinds
-- "Kinds 1 to 6 appear once each in any order": each entry names one of the form's kinds, and none a second time, so the entries name them all.
-- The last kind: the form's kinds are 1 to this one.
abbrev pub last_kind : ℕ
last_kind = 6

-- The kinds by name.
abbrev pub zone : ℕ
zone = 1

abbrev pub latitude : ℕ
latitude = 2

abbrev pub longitude : ℕ
longitude = 3

abbrev pub northing : ℕ
northing = 4

abbrev pub easting : ℕ
easting = 5

abbrev pub scale : ℕ
scale = 6

-- "Words in a row", by kind. There is no kind 0, and none above 6.
abbrev pub width_of : ℕ → ℕ
width_of kind = get_or (0 ∷ 2 ∷ 8 ∷ 2 ∷ 2 ∷ 1 ∷ 1 ∷ []) kind 0

-- The bytes of a row of the kind: four to a word.
abbrev pub row_bytes : ℕ → ℕ
row_bytes kind = 4 * width_of kind

-- No row has more words than a latitude row.
abbrev pub most_width : ℕ
most_width = width_of latitude

-- "Rows", by kind: the least and the most.
abbrev pub least_rows : ℕ → ℕ
least_rows kind = get_or (0 ∷ 1 ∷ 2 ∷ 2 ∷ 2 ∷ 2 ∷ 2 ∷ []) kind 0

abbrev pub most_rows : ℕ → ℕ
most_rows kind = get_or (0 ∷ 1 ∷ 1_200 ∷ 61 ∷ 100 ∷ 10 ∷ 200 ∷ []) kind 0

-- A minute of latitude in 0.001″: the step of kind 2.
abbrev pub one_minute : ℕ
one_minute = 60_000

-- The usual step from a row to the next, by kind, in the point's unit: a minute of latitude, "step 100″", "step 100,000 ft", "step 50,000 ft", "step 5,000 ft". The zone has one row
-- and no step.
abbrev pub usual_step : ℕ → ℕ
usual_step kind = get_or (0 ∷ 0 ∷ one_minute ∷ 100_000 ∷ 10_000_000 ∷ 5_000_000 ∷ 500_000 ∷ []) kind 0

-- How far the last row of a table of the kind can stand from row 0, by the usual step.
abbrev pub farthest : ℕ → ℕ
farthest kind = (most_rows kind - 1) * usual_step kind
