-- What a named figure's function shows of its answer: r is the number that was read, v the figure. Assumes nothing.
use mathlib.Core.Path.{◌≡◌, ap, ◌∙◌}
use mathlib.Core.Bool.{Bool, true}
use mathlib.Core.List.{List}
use Prim.Native.Nat.{ℕ, ◌^◌, ◌<◌, ◌≤◌}
use native.Mathlib.Nat.{lt_of_le_of_lt}
use lib.Dec.{T, ltb, ltb→lt}
use lib.IntN.{ℤ, pos, nat_abs}
use lib.Signed.{le_z, mag, non_neg}
use mir.Syntax.{w64}
use mir.Val.{Fits, SFits, to_z, of_z}
use Rattle.rounding.proofs.Sizes.{Size, size_non_neg}
use Rattle.rounding.proofs.Holds.{Holds, held_result, held_size, renamed, unsigned_fits}
use Rattle.entries.specs.Layout.{width_of}
use Rattle.entries.specs.Entries.{body_of, rows_of}
use Rattle.entries.specs.declared.Place.{Place}
use Rattle.contents.specs.Contents.{Placed}
use Rattle.reading.specs.declared.At.{At}
use Rattle.reading.specs.Tables.{NotNegative}
use Rattle.tables.specs.Figures.{InTable, figure_of, figure_at, figure_half}

module _ {r v : ℤ} (ok : mag r < 2 ^ 63) (e : r ≡ v) where
  holds : {k : ℕ} → nat_abs v ≤ k → Holds w64 (of_z w64 r) v k
  holds h = renamed (held_result w64 r ok (rw e h)) e

  -- a signed figure
  pub signed_is : {k : ℕ} → nat_abs v ≤ k → (to_z w64 (of_z w64 r) ≡ v) × (nat_abs (to_z w64 (of_z w64 r)) ≤ k)
  signed_is h = ((holds h).is, rw (holds h).is h)

  -- a figure that is a size
  module _ {low high : ℕ} (h : Size low v high) where
    pub size_is : nat_abs (to_z w64 (of_z w64 r)) ≡ nat_abs v
    size_is = ap nat_abs (holds h.high).is

    pub size_fits : T (ltb high (2 ^ 64)) → T (non_neg (to_z w64 (of_z w64 r))) × Fits w64 (nat_abs (to_z w64 (of_z w64 r)))
    size_fits t = unsigned_fits (holds h.high) (size_non_neg h) t

-- ---- a figure that was read as a size r
module _ {r : ℕ} {v : ℤ} {low high : ℕ} (e : pos r ≡ v) (h : Size low v high) where
  pub read_is : r ≡ nat_abs v
  read_is = ap nat_abs e

  pub read_low : low ≤ r
  read_low = rw read_is h.low

  pub read_high : r ≤ high
  read_high = rw read_is h.high

  -- that a signed type holds
  pub read_small : T (ltb high (2 ^ 63)) → r < 2 ^ 63
  read_small t = lt_of_le_of_lt read_high (ltb→lt high (2 ^ 63) t)

  -- and cast to it
  pub read_signed : T (ltb high (2 ^ 63)) → SFits w64 (pos r)
  read_signed t = record { sfits = read_small t }

  pub read_signed_is : T (ltb high (2 ^ 63)) → (to_z w64 r ≡ v) × (nat_abs (to_z w64 r) ≤ high)
  read_signed_is t =
      let is : to_z w64 r ≡ pos r = (held_size w64 read_high t).is in
      (is ∙ e, rw is read_high)

-- ---- a table t k that was taken for the sheet s and the kind: what is asked of the one holds of the other, and what is read in the one is the other's
module _ {s t : List ℕ} {k kind : ℕ} (here : (t ≡ s) × (k ≡ kind)) where
  pub figure_asks : {number i : ℕ} → number < width_of kind → i < rows_of s kind → le_z (pos 0) (figure_of s kind number i) ≡ true
      → (number < width_of k) × (i < rows_of t k) × (le_z (pos 0) (figure_of t k number i) ≡ true)
  figure_asks w r sign = rw (here.0, here.1) (w, r, sign)

  pub value_asks : {number : ℕ} {at : At} → number < width_of kind → InTable s kind at → (number < width_of k) × InTable t k at
  value_asks w there = rw (here.0, here.1) (w, there)

  pub size_asks : {number : ℕ} {at : At} → number < width_of kind → InTable s kind at → NotNegative (figure_of s kind number) (rows_of s kind)
      → (number < width_of k) × InTable t k at × NotNegative (figure_of t k number) (rows_of t k)
  size_asks w there all = rw (here.0, here.1) (w, there, all)

  pub figure_in : (number i : ℕ) {r : ℤ} → r ≡ figure_of t k number i → r ≡ figure_of s kind number i
  figure_in number i e = e ∙ rw (here.0, here.1)

  pub value_in : (number offset : ℕ) {r : ℤ} → r ≡ figure_at t k number offset → r ≡ figure_at s kind number offset
  value_in number offset e = e ∙ rw (here.0, here.1)

  pub half_in : (number offset : ℕ) {r : Bool} → r ≡ figure_half t k number offset → r ≡ figure_half s kind number offset
  half_in number offset e = e ∙ rw (here.0, here.1)

  pub body_in : {b : List ℕ} → b ≡ body_of t k → b ≡ body_of s kind
  body_in e = e ∙ rw (here.0, here.1)

  pub placed_in : {p : Place} → Placed t k p → Placed s kind p
  placed_in placed = rw (← here.0, ← here.1) placed
