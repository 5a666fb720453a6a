-- Rounding toward zero, by which the reduction's product, too wide for 64 bits, loses its low part before it is rounded to the nearest.
-- What is lost is less than a K that divides 10¹⁵, and 10¹⁵/K is even: so a half is a whole number of what is kept, and what is lost does not decide the value.
-- It does decide whether the exact value was a half: `reduction_half` is over the whole product.
use Rattle.std.specs.Prelude.{ℕ, zero, suc, ℤ, pos, negsuc, neg_ℤ}

-- t + e/K rounded toward zero, for any K above e: t, or t + 1 where t is below zero and e is not 0.
unfoldable pub toward_zero : ℤ → ℕ → ℤ
toward_zero (pos t) e = pos t
toward_zero (negsuc t) zero = negsuc t
toward_zero (negsuc t) (suc e) = neg_ℤ (pos t)
