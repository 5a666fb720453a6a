-- What is promised of every conversion, beyond its steps.
use Rattle.std.specs.Prelude.{◌≡◌, Bool, false, ℕ, ◌≤◌, ℤ, pos, nat_abs}

-- z fits a signed 32-bit number.
abbrev pub Fits32 : ℤ → Type 0
Fits32 z = nat_abs z ≤ 2_147_483_647

-- "A refused conversion carries zeros", and whether a rounding met a half is "no in a refusal": an answer by its number, its two values and its mark.
abbrev pub ZerosRefused : ℕ → ℤ → ℤ → Bool → Type 0
ZerosRefused number a b half = (number ≡ 0 → ⊥) → (a ≡ pos 0) × (b ≡ pos 0) × (half ≡ false)
