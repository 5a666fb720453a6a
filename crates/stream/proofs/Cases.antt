-- Small laws of cases, which the proofs over lines and files come to. Assumes nothing.
use mathlib.Core.Path.{◌≡◌}
use mathlib.Core.Bool.{Bool, true, false, cond}
use mathlib.Core.List.{List}
use mathlib.Core.Logic.{◌⊎◌, inl, inr, ⊎_elim}
use Prim.Native.Nat.{ℕ, zero, suc, ◌-◌, ◌≤◌}
use native.Mathlib.Omega.{arith}
use lib.ListN.{take}

-- a test has one answer
pub never : {A : Type 0} → true ≡ false → A
never e = let z : ◌≡◌ {A = ℕ} 0 1 = cc in absurd (omega arith)

-- where the test holds it is the first of the two, else the second
pub first_of : {A : Type 0} (t : Bool) (x y : A) → t ≡ true → x ≡ cond t x y
first_of t x y h = rw h

pub second_of_lem : {A : Type 0} (t : Bool) (x y : A) → t ≡ false → y ≡ cond t x y
second_of_lem t x y h = rw h

-- of two numbers one is not above the other
pub split : (a b : ℕ) → (a ≤ b) ⊎ (b ≤ a)
split zero b = inl (omega arith)
split (suc a) zero = inr (omega arith)
split (suc a) (suc b) = ⊎_elim (λ h. inl (omega (arith, h))) (λ h. inr (omega (arith, h))) (split a b)

-- `&s[0..n]` is the first n of s
pub lent : (n : ℕ) (s : List ℕ) → take (n - 0) s ≡ take n s
lent n s = let z : n - 0 ≡ n = omega arith in rw z
