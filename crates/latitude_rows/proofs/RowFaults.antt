-- A latitude row's fault, in the shape of a loop that has the row and the next in hand: x is what the row's checker answered. Assumes nothing.
use mathlib.Core.Path.{◌≡◌, sym, ◌∙◌}
use mathlib.Core.List.{List}
use Prim.Native.Nat.{ℕ, ◌+◌, ◌<◌, ◌≤◌}
use Rattle.refusals.proofs.Ladders.{where_below_lem, where_beyond}
use Rattle.latitude_rows.specs.declared.Row.{Row}
use Rattle.latitude_rows.specs.Rows.{row_at, pair_fault, last_fault, latitude_fault}

module _ (b : List ℕ) (n i : ℕ) (row : Row) (x : ℕ) (e : row ≡ row_at b i) where
  pub pair_is : (next : Row) → next ≡ row_at b (i + 1) → i + 1 < n → x ≡ pair_fault row next → x ≡ latitude_fault b n i
  unfolding latitude_fault
  pair_is next q h f = f ∙ rw (e, q) (sym (where_below_lem (i + 1) n (pair_fault (row_at b i) (row_at b (i + 1))) (last_fault (row_at b i)) h))

  pub last_is : n ≤ i + 1 → x ≡ last_fault row → x ≡ latitude_fault b n i
  unfolding latitude_fault
  last_is h f = f ∙ rw e (sym (where_beyond (i + 1) n (pair_fault (row_at b i) (row_at b (i + 1))) (last_fault (row_at b i)) h))
