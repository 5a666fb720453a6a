-- A form's contents: few words, and each word of an entry is among them. Assumes nothing.
use mathlib.Core.Path.{◌≡◌, refl}
use mathlib.Core.List.{List}
use Prim.Native.Nat.{ℕ, ◌+◌, ◌*◌, ◌<◌, ◌≤◌}
use native.Mathlib.Nat.{mul-suc, mul-le-mul_left}
use native.Mathlib.Omega.{arith}
use lib.Dec.{lit≤}
use lib.ListN.{length}
use mir.Syntax.{w64}
use mir.Val.{Fits}
use Rattle.entries.specs.declared.Form.{Form}
use Rattle.entries.specs.Layout.{Small, HasContents, form_named, first_entry, entry_words, most_words, most_kinds, most_first, first_body, least_bytes, last_kind}
use Rattle.entries.specs.Entries.{form_of}

-- ---- every form that there is
-- each has the kinds of every sheet
pub all_kinds : (word : ℕ) → last_kind ≤ (form_named word).kinds
unfolding form_named
all_kinds word = lit≤ tt

pub form_small : (word : ℕ) → Small (form_named word)
unfolding form_named
form_small word = record { some = lit≤ tt; few = lit≤ tt; least = lit≤ tt; most = lit≤ tt }

-- a form that was worked from a sheet is one of them
pub of_sheet : (s : List ℕ) (f : Form) → f ≡ form_of s → Small f
of_sheet s f e = rw e (form_small _)

-- and its contents are there, in a sheet as long as they are
pub has-contents : (s : List ℕ) (f : Form) → f ≡ form_of s → least_bytes (form_of s) ≤ length s → HasContents f s
has-contents s f e h = record { small = of_sheet s f e; long = rw e h }

-- ---- its words
module _ (f : Form) (small : Small f) where
  words-few : f.words * f.kinds ≤ most_words * most_kinds
  words-few = omega (arith, mul-le-mul_left f.words small.few, small.most)

  pub words_fit : Fits w64 (f.words * f.kinds)
  words_fit = record { fits = omega (arith, words-few) }

  pub first_fits : Fits w64 (f.words * f.kinds + first_entry)
  first_fits = record { fits = omega (arith, words-few) }

  pub first_is : (f.words * f.kinds + first_entry ≡ first_body f) × (f.words * f.kinds + first_entry ≤ most_first)
  first_is = (refl, omega (arith, words-few))

  module _ (e : ℕ) (h : e < f.kinds) where
    entry_end : f.words * e + f.words ≤ f.words * f.kinds
    entry_end = omega (arith, mul-suc f.words e, mul-le-mul_left f.words h)

    pub entry_fits : Fits w64 (f.words * e)
    entry_fits = record { fits = omega (arith, entry_end, words-few) }

    pub next_fits : Fits w64 (f.words * e + first_entry)
    next_fits = record { fits = omega (arith, entry_end, words-few, small.least) }

    module _ (j : ℕ) (l : j < entry_words) where
      pub word_inside : f.words * e + first_entry + j < first_body f
      word_inside = omega (arith, entry_end, small.least)

      pub word_fits : Fits w64 (f.words * e + first_entry + j)
      word_fits = record { fits = omega (arith, word_inside, words-few) }

      pub word-within : (s : List ℕ) → least_bytes f ≤ length s → 4 * (f.words * e + first_entry + j) + 4 ≤ length s
      word-within s long = omega (arith, word_inside)

-- a sheet as long as its contents has a word 0
pub some_word : (s : List ℕ) → least_bytes (form_of s) ≤ length s → 4 ≤ length s
some_word s h = omega arith
