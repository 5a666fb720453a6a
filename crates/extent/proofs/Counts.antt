-- The rows and the step of each kind, as a test of the last row asks for them. Assumes nothing.
use mathlib.Core.Path.{◌≡◌, ◌∙◌}
use mathlib.Core.Bool.{Bool}
use mathlib.Core.List.{List}
use Prim.Native.Nat.{ℕ, ◌-◌, ◌<◌, ◌≤◌}
use native.Mathlib.Nat.{le_trans}
use native.Mathlib.Omega.{arith}
use lib.Dec.{lit≤}
use lib.IntN.{ℤ}
use Rattle.rounding.specs.Ranges.{most_count, most_step}
use Rattle.entries.specs.declared.Place.{Place}
use Rattle.entries.specs.declared.Places.{Places}
use Rattle.entries.specs.Layout.{last_kind, latitude, most_rows, one_minute}
use Rattle.entries.specs.Entries.{rows_of, step_of}
use Rattle.entries.proofs.ByKind.{by_kind}
use Rattle.contents.specs.Contents.{Placed}
use Rattle.contents.proofs.Passing.{rows_some, rows_most}
use Rattle.sheet_check.specs.Check.{KnownToPass}
use Rattle.sheet_check.proofs.Known.{latitude-placed}
use Rattle.reading.specs.Tables.{within_rows}
use Rattle.tables.proofs.Parts.{step-most, place_rows, place-step}

-- no kind has more rows than latitude
most-small : (kind : ℕ) → 1 ≤ kind → kind ≤ last_kind → most_rows kind ≤ most_rows latitude
most-small = by_kind (λ (k : ℕ). most_rows k ≤ most_rows latitude) (lit≤ tt) (lit≤ tt) (lit≤ tt) (lit≤ tt) (lit≤ tt) (lit≤ tt)

module _ (s : List ℕ) (kind : ℕ) (p : Place) (placed : Placed s kind p) where
  pub count_some : 0 < p.rows
  count_some = rw (place_rows s kind p placed) (rows_some s placed.contents kind placed.least placed.most)

  pub count_most : p.rows ≤ most_count
  count_most =
      rw (place_rows s kind p placed)
      (le_trans (rows_most s placed.contents kind placed.least placed.most) (le_trans (most-small kind placed.least placed.most) (lit≤ tt)))

  pub its_step : p.step ≤ most_step
  its_step = rw (place-step s kind p placed) (step-most s placed.contents kind placed.least placed.most)

  pub within_is : (r : Bool) (x y : ℤ) → y ≡ x → r ≡ within_rows p.rows p.step y → r ≡ within_rows (rows_of s kind) (step_of s kind) x
  within_is r x y same a = a ∙ rw (place_rows s kind p placed, place-step s kind p placed, same)

-- ---- the latitude body's rows, a minute apart
module _ (s : List ℕ) (p : Places) (known : KnownToPass s p) where
  pub count_is : p.latitude.rows ≡ rows_of s latitude
  count_is = place_rows s latitude p.latitude (latitude-placed s p known)

  pub count_one : 1 ≤ p.latitude.rows
  count_one = count_some s latitude p.latitude (latitude-placed s p known)

  pub minutes_few : p.latitude.rows ≤ most_count
  minutes_few = count_most s latitude p.latitude (latitude-placed s p known)

  pub minutes_is : (r : Bool) (x y : ℤ) → y ≡ x → r ≡ within_rows p.latitude.rows one_minute y → r ≡ within_rows (rows_of s latitude) one_minute x
  minutes_is r x y same a = a ∙ rw (count_is, same)

  -- the last of them
  pub last_there : p.latitude.rows - 1 < rows_of s latitude
  last_there = omega (arith, count_is, count_one)
