-- The rows between which an offset falls are there, and the words of a row and of the next lie in a body of n rows. Assumes nothing.
use Prim.Native.Nat.{ℕ, suc, ◌+◌, ◌*◌, ◌-◌, ◌/◌, ◌%◌, ◌<◌, ◌≤◌}
use mathlib.Core.List.{List}
use native.Mathlib.Nat.{mul-suc, mul-le-mul_left, div-add-mod', le_of_mul-le-mul_right, lt_of_mul-lt-mul_right}
use native.Mathlib.Omega.{arith}
use lib.ListN.{length}

-- ---- the rows between which an offset falls are there
module _ (n step offset : ℕ) (p : 0 < step) (m : 0 < n) (h : offset ≤ (n - 1) * step) where
  pub this_there : offset / step < n
  this_there =
      let row : offset / step ≤ n - 1 = le_of_mul-le-mul_right {k = step} (omega (arith, div-add-mod' offset step)) p in
      omega arith

  pub next_there : 0 < offset % step → offset / step + 1 < n
  next_there r =
      let below : offset / step < n - 1 = lt_of_mul-lt-mul_right step (omega (arith, div-add-mod' offset step)) in
      omega arith

-- ---- and their words
module _ (b : List ℕ) (w c n : ℕ) (rows : 4 * (w * n) ≤ length b) (inside : c < w) where
  -- row i's word
  pub row_within : (i : ℕ) → i < n → 4 * (w * i + c) + 4 ≤ length b
  row_within i l = omega (arith, mul-le-mul_left w l, mul-suc w i)

  -- the row after row i
  pub next-within : (i : ℕ) → suc i < n → 4 * (w * i + c + w) + 4 ≤ length b
  next-within i l = omega (arith, row_within (suc i) l, mul-suc w i)
