-- What holds of each kind, one by one, holds of every kind. Assumes nothing.
use Prim.Native.Nat.{ℕ, zero, suc, ◌≤◌}
use native.Mathlib.Omega.{arith}
use Rattle.entries.specs.Layout.{last_kind}

pub by_kind : (P : ℕ → Type 0) → P 1 → P 2 → P 3 → P 4 → P 5 → P 6 → (kind : ℕ) → 1 ≤ kind → kind ≤ last_kind → P kind
by_kind P a b c d e f zero l h = absurd (omega arith)
by_kind P a b c d e f (suc zero) l h = a
by_kind P a b c d e f (suc (suc zero)) l h = b
by_kind P a b c d e f (suc (suc (suc zero))) l h = c
by_kind P a b c d e f (suc (suc (suc (suc zero)))) l h = d
by_kind P a b c d e f (suc (suc (suc (suc (suc zero))))) l h = e
by_kind P a b c d e f (suc (suc (suc (suc (suc (suc zero)))))) l h = f
by_kind P a b c d e f (suc (suc (suc (suc (suc (suc (suc k))))))) l h = absurd (omega arith)
