-- A sheet passes exactly when its contents have no fault and no row of any body has one. Assumes nothing.
use mathlib.Core.Path.{◌≡◌, refl, sym, ap, ◌∙◌}
use mathlib.Core.List.{List}
use Prim.Native.Nat.{ℕ, zero, suc, ◌+◌, ◌-◌, ◌<◌, ◌≤◌}
use native.Mathlib.Nat.{add-zero, zero-add}
use native.Mathlib.Omega.{arith}
use Rattle.refusals.specs.Ladder.{where_is}
use Rattle.refusals.specs.Faults.{fault}
use Rattle.refusals.proofs.FirstFault.{all_pass, no_fault}
use Rattle.refusals.proofs.Ladders.{each_passes, passed_on}
use Rattle.entries.specs.Layout.{last_kind, zone, latitude, longitude, northing, easting, scale}
use Rattle.entries.specs.Entries.{rows_of, body_of}
use Rattle.contents.specs.Contents.{verdict, number_of, contents_of}
use Rattle.contents.proofs.Passing.{contents_pass}
use Rattle.sheet_check.specs.Check.{row_fault, fault_of, in_kind, bodies_of, check_of}
use Rattle.latitude_rows.proofs.PassingRows.{LatitudeRow, latitude-row}
use Rattle.small_rows.proofs.PassingRows.{ZoneRow, zone-row, LongitudeRow, longitude-row, NorthingRow, northing-row, EastingRow, easting-row, ScaleRow, scale-row}

pub record Sound (s : List ℕ) : Type 0 where
  pub contents : contents_of s ≡ verdict 0 0 0
  pub rows : (kind i : ℕ) → 1 ≤ kind → kind ≤ last_kind → i < rows_of s kind → row_fault kind (body_of s kind) (rows_of s kind) i ≡ 0

-- ---- the n kinds from k on
kinds_pass : (s : List ℕ) (n k : ℕ) → (bodies_of s n k).number ≡ 0 → (j : ℕ) → j < n → (fault_of s (k + j)).number ≡ 0
unfolding bodies_of
kinds_pass s zero k e j h = absurd (omega arith)
kinds_pass s (suc n) k e zero h = rw add-zero (each_passes number_of (in_kind k (fault_of s k)) (bodies_of s n (suc k)) e).0
kinds_pass s (suc n) k e (suc j) h =
    let l : k + suc j ≡ suc k + j = omega arith in
    rw l (kinds_pass s n (suc k) (each_passes number_of (in_kind k (fault_of s k)) (bodies_of s n (suc k)) e).1 j (omega arith))

no_kind : (s : List ℕ) (n k : ℕ) → ((j : ℕ) → j < n → (fault_of s (k + j)).number ≡ 0) → bodies_of s n k ≡ verdict 0 0 0
unfolding bodies_of
no_kind s zero k none = refl
no_kind s (suc n) k none =
    let here : (fault_of s k).number ≡ 0 = rw add-zero at (none 0 (omega arith)) in
    sym (passed_on number_of (in_kind k (fault_of s k)) (bodies_of s n (suc k)) (in_kind k (fault_of s k)) refl (bodies_of s n (suc k)) here refl)
    ∙ no_kind s n (suc k) (λ j h. let l : k + suc j ≡ suc k + j = omega arith in rw l at (none (suc j) (omega arith)))

-- ---- the whole check
module _ (s : List ℕ) where
  pub passes_sound : (check_of s).number ≡ 0 → Sound s
  unfolding check_of
  passes_sound e =
      let both = each_passes number_of (contents_of s) (bodies_of s last_kind zone) e in
      record { contents = contents_pass s both.0; rows = λ kind i l h r. row kind i l r (at_kind kind l h both.1) }
    where
      at_kind : (kind : ℕ) → 1 ≤ kind → kind ≤ last_kind → (bodies_of s last_kind zone).number ≡ 0 → (fault_of s kind).number ≡ 0
      at_kind kind l h z = let back : 1 + (kind - 1) ≡ kind = omega arith in rw back at (kinds_pass s last_kind 1 z (kind - 1) (omega arith))

      row : (kind i : ℕ) → 1 ≤ kind → i < rows_of s kind → (fault_of s kind).number ≡ 0 → row_fault kind (body_of s kind) (rows_of s kind) i ≡ 0
      row kind i l r z = rw zero-add at (all_pass (row_fault kind (body_of s kind) (rows_of s kind)) (rows_of s kind) 0 z i r)

  pub sound_passes : Sound s → check_of s ≡ verdict 0 0 0
  unfolding check_of
  sound_passes p =
      sym (passed_on number_of (contents_of s) (bodies_of s last_kind zone) (contents_of s) refl (bodies_of s last_kind zone) (ap number_of p.contents) refl)
      ∙ no_kind s last_kind 1 (λ j h. ap (λ f. f.number) (none (1 + j) (omega arith) (omega arith)))
    where
      none : (kind : ℕ) → 1 ≤ kind → kind ≤ last_kind → fault_of s kind ≡ fault 0 0
      none kind l h = no_fault (row_fault kind (body_of s kind) (rows_of s kind)) (rows_of s kind) 0 (λ i r. rw zero-add (p.rows kind i l h r))

  -- number 0 is a pass: 0 0 0
  pub pass_is : (check_of s).number ≡ 0 → check_of s ≡ verdict 0 0 0
  pass_is e = sound_passes (passes_sound e)

-- ---- the rows of each body of a sheet that passes
module _ (s : List ℕ) (p : Sound s) where
  pub zone_rows : (i : ℕ) → i < rows_of s zone → ZoneRow (body_of s zone) i
  unfolding row_fault where_is
  zone_rows i h = zone-row (body_of s zone) i (p.rows zone i (omega arith) (omega arith) h)

  pub latitude_rows : (i : ℕ) → i < rows_of s latitude → LatitudeRow (body_of s latitude) (rows_of s latitude) i
  unfolding row_fault where_is
  latitude_rows i h = latitude-row (body_of s latitude) (rows_of s latitude) i (p.rows latitude i (omega arith) (omega arith) h)

  pub longitude_rows : (i : ℕ) → i < rows_of s longitude → LongitudeRow (body_of s longitude) (rows_of s longitude) i
  unfolding row_fault where_is
  longitude_rows i h = longitude-row (body_of s longitude) (rows_of s longitude) i (p.rows longitude i (omega arith) (omega arith) h)

  pub northing_rows : (i : ℕ) → i < rows_of s northing → NorthingRow (body_of s northing) i
  unfolding row_fault where_is
  northing_rows i h = northing-row (body_of s northing) i (p.rows northing i (omega arith) (omega arith) h)

  pub easting_rows : (i : ℕ) → i < rows_of s easting → EastingRow (body_of s easting) i
  unfolding row_fault where_is
  easting_rows i h = easting-row (body_of s easting) i (p.rows easting i (omega arith) (omega arith) h)

  pub scale_rows : (i : ℕ) → i < rows_of s scale → ScaleRow (body_of s scale) i
  unfolding row_fault where_is
  scale_rows i h = scale-row (body_of s scale) i (p.rows scale i (omega arith) (omega arith) h)
