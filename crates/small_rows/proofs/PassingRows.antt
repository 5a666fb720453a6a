-- A row of a small body without a fault keeps the rules of its kind. Assumes nothing.
use mathlib.Core.Path.{◌≡◌, sym, ◌∙◌}
use mathlib.Core.Bool.{Bool, true, false, ◌||◌}
use mathlib.Core.List.{List}
use Prim.Native.Nat.{ℕ, ◌+◌, ◌<◌}
use native.Mathlib.Decide.{dec_lt}
use native.Mathlib.Omega.{arith}
use lib.Dec.{eqb}
use lib.IntN.{pos, neg_ℤ}
use Rattle.refusals.proofs.Ladders.{rung, where_below_lem, where_beyond}
use Rattle.refusals.specs.Tests.{in_range}
use Rattle.rules.specs.Limits.{rises}
use Rattle.small_rows.specs.declared.LongitudeRow as declared
use Rattle.small_rows.specs.SmallRows.{zero_where, zone_at, longitude_at, northing_at, easting_at, scale_at, zone_row_fault, longitude_row_fault, northing_row_fault, easting_row_fault, scale_row_fault, zone_fault, longitude_fault, northing_fault, easting_fault, scale_fault}

-- ---- kind 1
module _ (b : List ℕ) (i : ℕ) where
  pub record ZoneRow : Type 0 where
    pub central_meridian : in_range (pos 6_000_000) (zone_at b i).central_meridian (pos 642_000_000) ≡ true
    pub false-easting : in_range (pos 0) (zone_at b i).false_easting (pos 100_000_000) ≡ true

  pub zone-row : zone_fault b i ≡ 0 → ZoneRow
  unfolding zone_fault zone_row_fault
  zone-row e =
      let p = rung _ 6 _ (λ z. omega arith) e in
      let q = rung _ 6 _ (λ z. omega arith) p.1 in
      record { central_meridian = p.0; false-easting = q.0 }

-- ---- kind 3
module _ (b : List ℕ) (n i : ℕ) where
  abbrev rise_of : declared.LongitudeRow → Bool
  rise_of next = rises (longitude_at b i).b next.b (neg_ℤ (pos 1_000)) (pos 1_000)

  pub record LongitudeRow : Type 0 where
    pub b_range : in_range (neg_ℤ (pos 20_000)) (longitude_at b i).b (pos 20_000) ≡ true
    pub c_range : in_range (neg_ℤ (pos 2_000)) (longitude_at b i).c (pos 2_000) ≡ true
    pub b_first : zero_where (eqb i 0) (longitude_at b i).b ≡ true
    pub c_first : zero_where (eqb i 0) (longitude_at b i).c ≡ true
    pub b_next : i + 1 < n → rise_of (longitude_at b (i + 1)) ≡ true

  -- judged beside next, whatever that is
  judged : (next : declared.LongitudeRow) (last : Bool) → longitude_row_fault (longitude_at b i) next (eqb i 0) last ≡ 0
      → (i + 1 < n → last || rise_of next ≡ true → rise_of (longitude_at b (i + 1)) ≡ true) → LongitudeRow
  unfolding longitude_row_fault
  judged next last e up =
      let p = rung _ 6 _ (λ z. omega arith) e in
      let q = rung _ 6 _ (λ z. omega arith) p.1 in
      let r = rung _ 6 _ (λ z. omega arith) q.1 in
      let t = rung _ 6 _ (λ z. omega arith) r.1 in
      record { b_range = p.0; c_range = q.0; b_first = r.0; c_first = t.0; b_next = λ h. up h (rung _ 8 0 (λ z. omega arith) t.1).0 }

  pub longitude-row : longitude_fault b n i ≡ 0 → LongitudeRow
  unfolding longitude_fault
  longitude-row e = by_place (dec_lt (i + 1) n)
    where
      by_place : Dec (i + 1 < n) → LongitudeRow
      by_place (yes h) = judged (longitude_at b (i + 1)) false (sym (where_below_lem (i + 1) n _ _ h) ∙ e) (λ l u. u)
      by_place (no h) = judged (longitude_at b i) true (sym (where_beyond (i + 1) n _ _ (omega arith)) ∙ e) (λ l u. absurd (h l))

-- ---- kinds 4, 5 and 6
module _ (b : List ℕ) (i : ℕ) where
  pub record NorthingRow : Type 0 where
    pub p_range : in_range (pos 0) (northing_at b i).p (pos 1_000_000) ≡ true
    pub m_range : in_range (pos 0) (northing_at b i).m (pos 1_000_000) ≡ true

  pub northing-row : northing_fault b i ≡ 0 → NorthingRow
  unfolding northing_fault northing_row_fault
  northing-row e =
      let p = rung _ 6 _ (λ z. omega arith) e in
      let q = rung _ 6 _ (λ z. omega arith) p.1 in
      record { p_range = p.0; m_range = q.0 }

  pub record EastingRow : Type 0 where
    pub d_range : in_range (neg_ℤ (pos 100)) (easting_at b i) (pos 100) ≡ true
    pub d_first : zero_where (eqb i 0) (easting_at b i) ≡ true

  pub easting-row : easting_fault b i ≡ 0 → EastingRow
  unfolding easting_fault easting_row_fault
  easting-row e =
      let p = rung _ 6 _ (λ z. omega arith) e in
      let q = rung _ 6 _ (λ z. omega arith) p.1 in
      record { d_range = p.0; d_first = q.0 }

  pub record ScaleRow : Type 0 where
    pub k_range : in_range (pos 9_990_000) (scale_at b i) (pos 10_010_000) ≡ true

  pub scale-row : scale_fault b i ≡ 0 → ScaleRow
  unfolding scale_fault scale_row_fault
  scale-row e = record { k_range = (rung _ 6 _ (λ z. omega arith) e).0 }
