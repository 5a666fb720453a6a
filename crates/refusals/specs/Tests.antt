-- Tests of a number that a ladder asks.
use Rattle.std.specs.Prelude.{Bool, false, ◌&&◌, eqb, ℤ, pos, negsuc}
use Rattle.std.specs.Int.Signed.{le_z}

-- x is from least to most.
unfoldable pub in_range : ℤ → ℤ → ℤ → Bool
in_range least x most = le_z least x && le_z x most

-- x is y.
unfoldable pub same_as : ℤ → ℤ → Bool
same_as (pos x) (pos y) = eqb x y
same_as (negsuc x) (negsuc y) = eqb x y
same_as (pos x) (negsuc y) = false
same_as (negsuc x) (pos y) = false
