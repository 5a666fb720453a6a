-- Rounding: the nearest whole number to a quotient, whether the quotient is a half, and a size with a sign put to it.
use Rattle.std.specs.Prelude.{Bool, ℕ, ◌+◌, ◌*◌, ◌/◌, ◌%◌, eqb, ℤ, pos, negsuc, neg_ℤ, nat_abs}

-- A size "with the sign of" l: the size itself, or its negative where l is below zero.
unfoldable pub with_sign : ℤ → ℤ → ℤ
with_sign (pos l) size = size
with_sign (negsuc l) size = neg_ℤ size

-- The nearest whole number to n/d where n is a size and d is above 0: n/d + 1/2, rounded down, so that a half goes up.
unfoldable pub nearest_size : ℕ → ℕ → ℕ
nearest_size n d = (2 * n + d) / (2 * d)

-- "Nearest" sends an exact half away from zero: the nearest to the sizes' quotient, with the sign of n. d is above 0 here too.
unfoldable pub nearest : ℤ → ℕ → ℤ
nearest n d = with_sign n (pos (nearest_size (nat_abs n) d))

-- "whether their exact value was a half", of n/d where n is a size and d is above 0: twice the rest of the division is d. `promises` has the theorem that this
-- is so exactly where 2n/d is a whole odd number. The words on halves that are quoted here and in other crates come from the later request for the mark, not from the paper of rules.
unfoldable pub on_half_size : ℕ → ℕ → Bool
on_half_size n d = eqb (2 * (n % d)) d

-- The same of n/d where n has a sign: the sign does not count.
unfoldable pub on_half : ℤ → ℕ → Bool
on_half n d = on_half_size (nat_abs n) d
