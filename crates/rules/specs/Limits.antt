-- Bounds between a row's figure and the next row's.
use Rattle.std.specs.Prelude.{Bool, ℤ, ◌-ℤ◌}
use Rattle.refusals.specs.Tests.{in_range}

-- From x in a row to the next row's, the rise is from least to most. A fall is a rise below zero.
unfoldable pub rises : ℤ → ℤ → ℤ → ℤ → Bool
rises x next least most = in_range least (next -ℤ x) most
