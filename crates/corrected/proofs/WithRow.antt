-- What is read of a sheet after row r of its latitude body was rewritten with f: the contents, the rows of each kind and every other body as before, and of the latitude body
-- what `correct` shows of it. Assumes nothing.
use mathlib.Core.Path.{◌≡◌, ◌∙◌}
use mathlib.Core.List.{List}
use mathlib.Core.Logic.{◌⊎◌, inl, inr}
use Prim.Native.Nat.{ℕ, ◌+◌, ◌*◌, ◌<◌, ◌≤◌}
use native.Mathlib.Nat.{le_trans}
use lib.Dec.{lit≤}
use lib.ListN.{length}
use Rattle.words.specs.Words.{unsigned_at}
use Rattle.words.specs.Parts.{part_of}
use Rattle.words.proofs.PuttingParts.{length-put_part, part_put, part_before, part_after, word_before}
use Rattle.entries.specs.Layout.{latitude, last_kind, first_body, width_of}
use Rattle.entries.specs.Entries.{form_of, start_of, rows_of, step_of, body_of}
use Rattle.contents.specs.Contents.{contents_of}
use Rattle.contents.proofs.Passing.{its_entry, there, body_after, body_within, body_length}
use Rattle.corrected.proofs.SameContents.{same-contents, start_same, rows_same, step_same}
use Rattle.corrected.proofs.Apart.{bodies_apart}
use Rattle.rules.specs.declared.Figures.{Figures}
use Rattle.correct.specs.Correction.{rewritten, with_row}
use Rattle.correct.proofs.Rewritten.{length-rewritten}

module _ (s : List ℕ) (z : (contents_of s).number ≡ 0) (r : ℕ) (f : Figures) where
  abbrev b : List ℕ
  b = body_of s latitude

  abbrev n : ℕ
  n = rows_of s latitude

  abbrev a : ℕ
  a = start_of s latitude

  abbrev new : List ℕ
  new = rewritten b n r f

  pub within : 4 * (a + n * width_of latitude) ≤ length s
  within = body_within s z latitude (lit≤ tt) (lit≤ tt)

  pub body_long : length b ≡ 4 * (n * width_of latitude)
  body_long = body_length s z latitude (lit≤ tt) (lit≤ tt)

  pub whole : length new ≡ 4 * (n * width_of latitude)
  whole = length-rewritten b n r f ∙ body_long

  pub length-stays : length (with_row s r f) ≡ length s
  unfolding with_row
  length-stays = length-put_part s new a (n * width_of latitude) within whole

  -- ---- the contents
  word-stays : (i : ℕ) → i < first_body (form_of s) → unsigned_at (with_row s r f) i ≡ unsigned_at s i
  unfolding with_row
  word-stays i h = word_before s new a (n * width_of latitude) within whole i (le_trans h (body_after s z latitude (lit≤ tt) (lit≤ tt)))

  pub contents_stay : contents_of (with_row s r f) ≡ contents_of s
  contents_stay = same-contents s (with_row s r f) word-stays length-stays

  module _ (kind : ℕ) (l : 1 ≤ kind) (h : kind ≤ last_kind) where
    start_stays : start_of (with_row s r f) kind ≡ start_of s kind
    start_stays = start_same s (with_row s r f) word-stays kind (its_entry s z kind l (there s z kind l h)).0

    pub rows_stay : rows_of (with_row s r f) kind ≡ rows_of s kind
    rows_stay = rows_same s (with_row s r f) word-stays kind (its_entry s z kind l (there s z kind l h)).0

    pub step_stays : step_of (with_row s r f) kind ≡ step_of s kind
    step_stays = step_same s (with_row s r f) word-stays kind (its_entry s z kind l (there s z kind l h)).0

    body_is : body_of (with_row s r f) kind ≡ part_of (with_row s r f) (start_of s kind) (rows_of s kind * width_of kind)
    unfolding body_of
    body_is = rw (start_stays, rows_stay)

    -- ---- every other body
    pub body_stays : (kind ≡ latitude → ⊥) → body_of (with_row s r f) kind ≡ body_of s kind
    unfolding with_row body_of
    body_stays other = body_is ∙ by_side (bodies_apart s z kind latitude l h (lit≤ tt) (lit≤ tt) other)
      where
        by_side : (start_of s kind + rows_of s kind * width_of kind ≤ a) ⊎ (a + n * width_of latitude ≤ start_of s kind)
            → part_of (with_row s r f) (start_of s kind) (rows_of s kind * width_of kind) ≡ body_of s kind
        by_side (inl before) = part_before s new a (n * width_of latitude) within whole (start_of s kind) (rows_of s kind * width_of kind) before
        by_side (inr after) = part_after s new a (n * width_of latitude) within whole (start_of s kind) (rows_of s kind * width_of kind) after

  -- ---- the latitude body
  pub latitude_body : body_of (with_row s r f) latitude ≡ rewritten b n r f
  unfolding with_row
  latitude_body = body_is latitude (lit≤ tt) (lit≤ tt) ∙ part_put s new a (n * width_of latitude) within whole
