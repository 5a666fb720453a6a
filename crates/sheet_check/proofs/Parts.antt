-- A body as it is lent to its checker: it has the rows that its kind's checker asks for, and it is the part of the sheet that the contents say. Assumes nothing.
use mathlib.Core.Path.{◌≡◌, ◌∙◌}
use mathlib.Core.List.{List}
use Prim.Native.Nat.{ℕ, ◌+◌, ◌*◌, ◌<◌, ◌≤◌}
use native.Mathlib.Omega.{arith}
use lib.ListN.{length}
use Rattle.refusals.specs.Faults.{Fault}
use Rattle.refusals.specs.Faults.{first_fault}
use Rattle.entries.specs.declared.Place.{Place}
use Rattle.entries.specs.Layout.{last_kind, zone, latitude, longitude, northing, easting, scale, least_bytes, width_of, row_bytes}
use Rattle.entries.specs.Entries.{form_of, body_of, place_of}
use Rattle.contents.specs.Contents.{contents_of}
use Rattle.contents.proofs.Passing.{passed, rows_some}
use Rattle.sheet_check.specs.Check.{row_fault, fault_of}

-- ---- rows enough, once the kind is known
module _ (kind n size : ℕ) (h : 4 * (n * width_of kind) ≤ size) where
  of_kind : (k : ℕ) → kind ≡ k → 4 * (n * width_of k) ≤ size
  of_kind k e = rw e at h

  pub rows_latitude : kind ≡ latitude → row_bytes latitude * n ≤ size
  rows_latitude e = omega (arith, of_kind latitude e)

  module _ (i : ℕ) (l : i < n) where
    pub row-zone : kind ≡ zone → row_bytes zone * i + row_bytes zone ≤ size
    row-zone e = omega (arith, of_kind zone e)

    pub rows_longitude : kind ≡ longitude → row_bytes longitude * n ≤ size
    rows_longitude e = omega (arith, of_kind longitude e)

    pub row-northing : kind ≡ northing → row_bytes northing * i + row_bytes northing ≤ size
    row-northing e = omega (arith, of_kind northing e)

    pub row-easting : kind ≡ easting → row_bytes easting * i + row_bytes easting ≤ size
    row-easting e = omega (arith, of_kind easting e)

    pub row-scale : kind ≡ scale → row_bytes scale * i + row_bytes scale ≤ size
    row-scale e = omega (arith, of_kind scale e)

-- ---- the body
pub long_enough : (s : List ℕ) → (contents_of s).number ≡ 0 → least_bytes (form_of s) ≤ length s
long_enough s z = (passed s z).long

pub body_some : (s : List ℕ) (kind : ℕ) (p : Place) → (contents_of s).number ≡ 0 → 1 ≤ kind → kind ≤ last_kind → p ≡ place_of s kind → 0 < p.rows
body_some s kind p z l h e = rw e (rows_some s z kind l h)

pub body_fault : (s : List ℕ) (kind : ℕ) (p : Place) (b : List ℕ) (r : Fault) → p ≡ place_of s kind → b ≡ body_of s kind
    → r ≡ first_fault (row_fault kind b p.rows) p.rows 0 → r ≡ fault_of s kind
body_fault s kind p b r e is q = q ∙ rw (is, e)
