-- A kind's body cut out of the sheet: its ends are small numbers and lie within the sheet, and what is cut is the body. Assumes nothing.
use mathlib.Core.Path.{◌≡◌, refl, ap, ◌∙◌}
use mathlib.Core.List.{List}
use Prim.Native.Nat.{ℕ, ◌+◌, ◌*◌, ◌-◌, ◌<◌, ◌≤◌}
use native.Mathlib.Omega.{arith}
use lib.ListN.{length, take, drop}
use mir.Syntax.{w64}
use mir.Val.{Fits}
use Rattle.words.proofs.PartWords.{part_is}
use Rattle.entries.specs.declared.Place.{Place}
use Rattle.entries.specs.Layout.{most_bytes, width_of}
use Rattle.entries.specs.Entries.{body_of}
use Rattle.contents.specs.Contents.{Placed}
use Rattle.contents.proofs.Passing.{passed, rows_some, body_within, body_length}

module _ (s : List ℕ) (kind : ℕ) (p : Place) (h : Placed s kind p) (width : ℕ) (w : width ≡ width_of kind) where
  -- it ends within the sheet
  pub ends-within : 4 * p.start + 4 * (p.rows * width) ≤ length s
  ends-within = rw (h.place, w) (omega (arith, body_within s h.contents kind h.least h.most))

  short : 4 * p.start + 4 * (p.rows * width) ≤ most_bytes
  short = omega (arith, ends-within, (passed s h.contents).short)

  -- so that its ends are small numbers
  pub words_fit : Fits w64 (p.rows * width)
  words_fit = record { fits = omega (arith, short) }

  pub bytes_fit : Fits w64 (4 * (p.rows * width))
  bytes_fit = record { fits = omega (arith, short) }

  pub end_fits : Fits w64 (4 * p.start + 4 * (p.rows * width))
  end_fits = record { fits = omega (arith, short) }

  -- what is cut
  cut_body : take (4 * p.start + 4 * (p.rows * width) - 4 * p.start) (drop (4 * p.start) s) ≡ body_of s kind
  unfolding body_of
  cut_body = part_is s p.start (p.rows * width) ∙ rw (h.place, w)

  pub cut_is : (r : List ℕ) → r ≡ take (4 * p.start + 4 * (p.rows * width) - 4 * p.start) (drop (4 * p.start) s)
      → (r ≡ body_of s kind) × (length r ≡ 4 * (p.rows * width_of kind))
  cut_is r e = (e ∙ cut_body, ap length (e ∙ cut_body) ∙ body_length s h.contents kind h.least h.most ∙ rw h.place)

-- before the width is known
pub start_fits : (s : List ℕ) (kind : ℕ) (p : Place) → Placed s kind p → Fits w64 (4 * p.start)
start_fits s kind p h = record { fits = omega (arith, short s kind p h (width_of kind) refl) }

-- it has a row
pub rows_there : (s : List ℕ) (kind : ℕ) (p : Place) → Placed s kind p → 0 < p.rows
rows_there s kind p h = rw h.place (rows_some s h.contents kind h.least h.most)
