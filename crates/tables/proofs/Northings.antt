-- The latitude body as it is lent to the search for a row, and its y0. Assumes nothing.
use mathlib.Core.Path.{◌≡◌, ap, ◌∙◌}
use mathlib.Core.Bool.{true}
use mathlib.Core.List.{List}
use Prim.Native.Nat.{ℕ, ◌*◌, ◌-◌, ◌^◌, ◌<◌, ◌≤◌, min}
use native.Mathlib.Nat.{le_refl}
use native.Mathlib.Omega.{arith}
use lib.Dec.{lit≤}
use lib.IntN.{ℤ, nat_abs}
use lib.ListN.{length}
use lib.Signed.{le_z}
use Rattle.entries.specs.declared.Places.{Places}
use Rattle.entries.specs.Layout.{latitude, width_of}
use Rattle.entries.specs.Entries.{rows_of, body_of}
use Rattle.sheet_check.specs.Check.{KnownToPass}
use Rattle.contents.proofs.Passing.{body_length}
use Rattle.sheet_check.proofs.Known.{contents-none, latitude-placed}
use Rattle.reading.specs.Tables.{column, NotNegative}
use Rattle.row_search.specs.Rows.{last_not_above, Rising}
use Rattle.row_search.proofs.LastRow.{but_last}
use Rattle.tables.specs.Figures.{y0_of}
use Rattle.tables.proofs.Parts.{place_rows}
use Rattle.tables.proofs.Ranges.{latitude-some, latitude-two, y0_rows, y0_rising}

module _ (s : List ℕ) (p : Places) (known : KnownToPass s p) where
  rows_are : p.latitude.rows ≡ rows_of s latitude
  rows_are = place_rows s latitude p.latitude (latitude-placed s p known)

  -- it has rows, and rows but the last
  pub lent_some : 0 < p.latitude.rows
  lent_some = rw rows_are (latitude-some s known.passes)

  pub lent_all : p.latitude.rows ≤ rows_of s latitude
  lent_all = rw rows_are (le_refl (rows_of s latitude))

  pub before_some : 0 < p.latitude.rows - 1
  before_some = rw rows_are (omega (arith, latitude-two s known.passes))

  pub before_all : p.latitude.rows - 1 ≤ rows_of s latitude
  before_all = omega (arith, rows_are)

  -- the first n rows of it
  module _ (b : List ℕ) (is : b ≡ body_of s latitude) (n : ℕ) (among : n ≤ rows_of s latitude) where
    abbrev lent : ℕ → ℤ
    lent = column b (width_of latitude) 1

    lent_is : lent ≡ y0_of s
    unfolding y0_of
    lent_is = rw is

    pub lent_long : 4 * (width_of latitude * n) ≤ length b
    lent_long =
        let long : length b ≡ 4 * (rows_of s latitude * width_of latitude) = rw is (body_length s (contents-none s known.passes) latitude (lit≤ tt) (lit≤ tt)) in
        omega (arith, long)

    all_sizes : NotNegative lent (rows_of s latitude)
    all_sizes = rw is (y0_rows s known.passes)

    pub lent_sizes : NotNegative lent n
    unfolding NotNegative
    lent_sizes i l = all_sizes i (omega arith)

    all_rising : Rising lent (rows_of s latitude)
    all_rising = rw lent_is (y0_rising s known.passes)

    pub lent_rising : Rising lent n
    unfolding Rising
    lent_rising i l = all_rising i (omega arith)

    module _ (y z : ℤ) (same : y ≡ z) where
      pub lent_first : le_z (y0_of s 0) z ≡ true → le_z (lent 0) y ≡ true
      lent_first h = ap (λ (f : ℕ → ℤ). le_z (f 0) y) lent_is ∙ rw same h

      pub lent_row : (r : ℕ) → r ≡ last_not_above lent n y → r ≡ last_not_above (y0_of s) n z
      lent_row r q = q ∙ rw (lent_is, same)

  module _ (y z : ℤ) (same : y ≡ z) where
    pub bits_first : le_z (y0_of s 0) z ≡ true → le_z (y0_of s 0) y ≡ true
    bits_first h = rw same h

    pub bits_small : nat_abs z < 2 ^ 62 → nat_abs y < 2 ^ 62
    bits_small h = rw same h

    -- all rows, and all but the last
    pub row_of_is : (r : ℕ) → r ≡ last_not_above (y0_of s) p.latitude.rows y → r ≡ last_not_above (y0_of s) (rows_of s latitude) z
    row_of_is r q = q ∙ rw (same, rows_are)

    pub row_with_next_is : le_z (y0_of s 0) z ≡ true → (r : ℕ) → r ≡ last_not_above (y0_of s) (p.latitude.rows - 1) y
        → r ≡ min (last_not_above (y0_of s) (rows_of s latitude) z) (rows_of s latitude - 2)
    row_with_next_is first r q =
        q ∙ rw (same, rows_are) (but_last (y0_of s) z (rows_of s latitude) (latitude-two s known.passes) (y0_rising s known.passes) first)

  pub lent_below : (r : ℕ) → r < p.latitude.rows → r < rows_of s latitude
  lent_below r h = rw rows_are at h
