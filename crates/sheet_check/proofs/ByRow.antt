-- A row's fault is that of its kind, so a latitude body's first fault is its checker's. Assumes nothing.
use mathlib.Core.Path.{◌≡◌, ◌∙◌}
use mathlib.Core.List.{List}
use Prim.Native.Nat.{ℕ, ◌<◌, ◌^◌}
use lib.Dec.{eqb}
use lib.IntN.{ℤ}
use lib.Signed.{mag}
use mir.Syntax.{w32}
use mir.Val.{to_z, of_z, hbits}
use Rattle.entries.specs.Layout.{zone, latitude, longitude, northing, easting, scale}
use Rattle.refusals.specs.Faults.{Fault}
use Rattle.refusals.specs.Ladder.{where_is}
use Rattle.refusals.specs.Faults.{first_fault}
use Rattle.latitude_rows.specs.Rows.{latitude_fault}
use Rattle.small_rows.specs.declared.ZoneRow.{ZoneRow}
use Rattle.small_rows.specs.declared.NorthingRow.{NorthingRow}
use Rattle.small_rows.specs.SmallRows.{zone_at, northing_at, easting_at, scale_at, zone_row_fault, northing_row_fault, easting_row_fault, scale_row_fault, zone_fault, longitude_fault, northing_fault, easting_fault, scale_fault}
use Rattle.small_rows.proofs.AsGiven.{read}
use Rattle.sheet_check.specs.Check.{row_fault}

module _ (kind : ℕ) (b : List ℕ) (n : ℕ) where
  module _ (i x : ℕ) where
    pub of_zone : kind ≡ zone → (row : ZoneRow) → row ≡ zone_at b i → x ≡ zone_row_fault row → x ≡ row_fault kind b n i
    unfolding row_fault where_is zone_fault
    of_zone e row r q = rw (e, ← r) q

    pub of_longitude : kind ≡ longitude → x ≡ longitude_fault b n i → x ≡ row_fault kind b n i
    unfolding row_fault where_is
    of_longitude e q = rw e q

    pub of_northing : kind ≡ northing → (row : NorthingRow) → row ≡ northing_at b i → x ≡ northing_row_fault row → x ≡ row_fault kind b n i
    unfolding row_fault where_is northing_fault
    of_northing e row r q = rw (e, ← r) q

    pub of_easting : kind ≡ easting → (d : ℤ) → mag d < 2 ^ hbits w32 → d ≡ easting_at b i → x ≡ easting_row_fault (to_z w32 (of_z w32 d)) (eqb i 0) → x ≡ row_fault kind b n i
    unfolding row_fault where_is easting_fault
    of_easting e d f r q = rw e (q ∙ rw (read f r))

    pub of_scale : kind ≡ scale → (k : ℤ) → mag k < 2 ^ hbits w32 → k ≡ scale_at b i → x ≡ scale_row_fault (to_z w32 (of_z w32 k)) → x ≡ row_fault kind b n i
    unfolding row_fault where_is scale_fault
    of_scale e k f r q = rw e (q ∙ rw (read f r))

  pub of_latitude : (r : Fault) → kind ≡ latitude → r ≡ first_fault (latitude_fault b n) n 0 → r ≡ first_fault (row_fault kind b n) n 0
  unfolding row_fault where_is
  of_latitude r e q = rw e q
