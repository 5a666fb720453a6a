-- `reading::with_next` meets its contract. Assumes nothing.
use mathlib.Core.Path.{◌≡◌}
use Prim.Native.Nat.{ℕ, ◌+◌, ◌-◌, ◌<◌, ◌≤◌, min}
use native.Mathlib.Decide.{dec_le}
use native.Mathlib.Omega.{arith}
use Rattle.reading.proofs.with_next.Goals as goal

-- r is 1 beyond the last row that has a next, and else 0
module _ (k n r last : ℕ) (one : last < k → r ≡ 1) (none : k ≤ last → r ≡ 0) (there : k < n) (next : last + 2 ≡ n) where
  some : r ≤ k
  some = pick (dec_le k last)
    where
      pick : Dec (k ≤ last) → r ≤ k
      pick (yes h) = omega (arith, none h)
      pick (no h) = omega (arith, one (omega arith))

  is_cut : k - r ≡ min k (n - 2)
  is_cut = pick (dec_le k last)
    where
      pick : Dec (k ≤ last) → k - r ≡ min k (n - 2)
      pick (yes h) = omega (arith, none h)
      pick (no h) = omega (arith, one (omega arith))

pub returns : goal.returns
returns c = is_cut c.args.k c.args.n c.beyond.result _ c.beyond.ensures.0 c.beyond.ensures.1 c.requires.1 (omega (arith, c.requires.0))

pub overflow_sub-result : goal.overflow_sub-result
overflow_sub-result c = some c.args.k c.args.n c.beyond.result _ c.beyond.ensures.0 c.beyond.ensures.1 c.requires.1 (omega (arith, c.requires.0))
