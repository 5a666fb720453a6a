-- The check's answer: the contents first, then the bodies.
use Rattle.std.specs.Prelude.{◌≡◌, List, ℕ, zero, suc}
use Rattle.refusals.specs.Faults.{Fault}
use Rattle.refusals.specs.Ladder.{or_else, where_is}
use Rattle.refusals.specs.Faults.{first_fault}
use Rattle.contents.specs.Contents.{Verdict}
use Rattle.entries.specs.declared.Places.{Places}
use Rattle.entries.specs.Layout.{last_kind, zone, latitude, longitude, northing, easting}
use Rattle.entries.specs.Entries.{rows_of, body_of, places_of}
use Rattle.contents.specs.Contents.{verdict, number_of, contents_of}
use Rattle.latitude_rows.specs.Rows.{latitude_fault}
use Rattle.small_rows.specs.SmallRows.{zone_fault, longitude_fault, northing_fault, easting_fault, scale_fault}

-- The number of the fault, 0 for none, of row i in the body b of n rows. The kind is one of these six, so what is left at the end is scale.
unfoldable pub row_fault : ℕ → List ℕ → ℕ → ℕ → ℕ
row_fault kind b n i =
    where_is kind zone (zone_fault b i)
    (where_is kind latitude (latitude_fault b n i)
    (where_is kind longitude (longitude_fault b n i)
    (where_is kind northing (northing_fault b i)
    (where_is kind easting (easting_fault b i)
    (scale_fault b i)))))

-- The first fault of the sheet's body of the kind, "row upward". "Rows count from 0."
abbrev pub fault_of : List ℕ → ℕ → Fault
fault_of s kind = first_fault (row_fault kind (body_of s kind) (rows_of s kind)) (rows_of s kind) 0

-- A body's fault as the check's answer: "number, kind, row".
abbrev pub in_kind : ℕ → Fault → Verdict
in_kind kind f = verdict f.number kind f.place

-- "then bodies by kind 1 to 6 and row upward": of the n kinds from k on, the first whose body has a fault. "A pass is 0 0 0."
unfoldable pub bodies_of : List ℕ → ℕ → ℕ → Verdict
bodies_of s zero k = verdict 0 0 0
bodies_of s (suc n) k = or_else number_of (in_kind k (fault_of s k)) (bodies_of s n (suc k))

-- "Order: 1; word 0; each entry by 2, 3, 4, start; the end; then bodies". 0 is "accepted".
unfoldable pub check_of : List ℕ → Verdict
check_of s = or_else number_of (contents_of s) (bodies_of s last_kind zone)

-- The sheet passes the check, and p are its places: what a conversion on a sheet known to pass asks for. The check and the places are worked once, before the first point.
pub record KnownToPass (s : List ℕ) (p : Places) : Type 0 where
  pub passes : (check_of s).number ≡ 0
  pub places : p ≡ places_of s
