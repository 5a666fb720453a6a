-- Reading between rows: one definition for every table and every step.
use Rattle.std.specs.Prelude.{Bool, ℕ, ℤ, pos, ◌+ℤ◌, ◌-ℤ◌, ◌*ℤ◌}
use Rattle.rounding.specs.Nearest.{nearest, on_half}

-- "Between rows u and w of step S, at an offset t from 0 to below S, the value is u + (w − u)t/S": as one fraction over S, this is what stands above the line,
-- u·S + (w − u)·t. The value has the rows' unit; t and S share another.
abbrev pub exact_between : ℤ → ℤ → ℕ → ℕ → ℤ
exact_between u w t step = u *ℤ pos step +ℤ (w -ℤ u) *ℤ pos t

-- "brought to the table's unit by nearest, once"
unfoldable pub between : ℤ → ℤ → ℕ → ℕ → ℤ
between u w t step = nearest (exact_between u w t step) step

-- Whether the exact value of that reading "was a half".
unfoldable pub between_half : ℤ → ℤ → ℕ → ℕ → Bool
between_half u w t step = on_half (exact_between u w t step) step

-- n is a figure raised by 2³¹, so that it is never negative; this gives the figure back.
unfoldable pub lowered : ℕ → ℤ
lowered n = pos n -ℤ pos 2_147_483_648
