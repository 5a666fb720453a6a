-- The words in a row and the step of each kind, as chains of tests come to them. Assumes nothing.
use mathlib.Core.Path.{◌≡◌, refl}
use Prim.Native.Nat.{ℕ, zero, suc, ◌<◌, ◌≤◌}
use native.Mathlib.Omega.{arith}
use Rattle.entries.specs.Layout.{most_kinds, width_of, usual_step}

-- what is left: zone, longitude and northing
pub width_two : (k : ℕ) → (k ≡ 0 → ⊥) → (k ≡ 2 → ⊥) → k < 5 → 2 ≡ width_of k
width_two zero a b h = absurd (a refl)
width_two (suc zero) a b h = refl
width_two (suc (suc zero)) a b h = absurd (b refl)
width_two (suc (suc (suc zero))) a b h = refl
width_two (suc (suc (suc (suc zero)))) a b h = refl
width_two (suc (suc (suc (suc (suc k))))) a b h = absurd (omega arith)

-- easting and scale
pub width_one : (k : ℕ) → 5 ≤ k → k ≤ most_kinds → 1 ≡ width_of k
width_one zero a h = absurd (omega arith)
width_one (suc zero) a h = absurd (omega arith)
width_one (suc (suc zero)) a h = absurd (omega arith)
width_one (suc (suc (suc zero))) a h = absurd (omega arith)
width_one (suc (suc (suc (suc zero)))) a h = absurd (omega arith)
width_one (suc (suc (suc (suc (suc zero))))) a h = refl
width_one (suc (suc (suc (suc (suc (suc zero)))))) a h = refl
width_one (suc (suc (suc (suc (suc (suc (suc k))))))) a h = absurd (omega arith)

-- the zone has no step
pub step-none : (k : ℕ) → (k ≡ 2 → ⊥) → (k ≡ 3 → ⊥) → (k ≡ 4 → ⊥) → (k ≡ 5 → ⊥) → (k ≡ 6 → ⊥) → 0 ≡ usual_step k
step-none zero a b c d e = refl
step-none (suc zero) a b c d e = refl
step-none (suc (suc zero)) a b c d e = absurd (a refl)
step-none (suc (suc (suc zero))) a b c d e = absurd (b refl)
step-none (suc (suc (suc (suc zero)))) a b c d e = absurd (c refl)
step-none (suc (suc (suc (suc (suc zero))))) a b c d e = absurd (d refl)
step-none (suc (suc (suc (suc (suc (suc zero)))))) a b c d e = absurd (e refl)
step-none (suc (suc (suc (suc (suc (suc (suc k))))))) a b c d e = refl
