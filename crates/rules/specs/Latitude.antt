-- The rules of a latitude row's figures: their ranges, their bounds with the next row, and the differences over 60 seconds.
use Rattle.std.specs.Prelude.{Bool, ◌&&◌, ℕ, pos, neg_ℤ, ◌-ℤ◌}
use Rattle.steps.specs.Steps.{per_second}
use Rattle.rules.specs.declared.Figures.{Figures}
use Rattle.rules.specs.declared.Differences.{Differences}
use Rattle.refusals.specs.Tests.{in_range, same_as}
use Rattle.rules.specs.Limits.{rises}

-- "y0 0 to 999,999,999; H 30,000,000 to 102,000,000; V 0 to 1,400,000; a −2,000 to 2,000"
unfoldable pub figures_in_range : Figures → Bool
figures_in_range f =
    in_range (pos 0) f.y0 (pos 999_999_999)
    && in_range (pos 30_000_000) f.h (pos 102_000_000)
    && in_range (pos 0) f.v (pos 1_400_000)
    && in_range (neg_ℤ (pos 2_000)) f.a (pos 2_000)

-- "y0 rises by 600,000 to 615,000"
abbrev pub least_rise : ℕ
least_rise = 600_000

abbrev pub most_rise : ℕ
most_rise = 615_000

-- "Between a latitude row and the next: [..] y0 rises by 600,000 to 615,000; H falls by 1 to 50,000; V differs by at most 1,000 and a by at most 10."
-- H's fall is the rise from the next row's H to this one's.
unfoldable pub within_bounds : Figures → Figures → Bool
within_bounds f next =
    rises f.y0 next.y0 (pos least_rise) (pos most_rise)
    && rises next.h f.h (pos 1) (pos 50_000)
    && rises f.v next.v (neg_ℤ (pos 1_000)) (pos 1_000)
    && rises f.a next.a (neg_ℤ (pos 10)) (pos 10)

-- "Δy, ΔH and ΔV are the differences over 60 seconds: nearest whole to 1000(y0 next − y0)/60, 100(H − H next)/60, 100(V next − V)/60
-- (no half can occur)". "They are checked; conversion uses the rows themselves."
unfoldable pub differences_of : Figures → Figures → Differences
differences_of f next = record {
  y = per_second 1_000 (next.y0 -ℤ f.y0);
  h = per_second 100 (f.h -ℤ next.h);
  v = per_second 100 (next.v -ℤ f.v);
}

-- "In the last row all three are 0."
unfoldable pub no_differences : Differences
no_differences = record { y = pos 0; h = pos 0; v = pos 0 }

-- e's three are d's three.
unfoldable pub same_differences : Differences → Differences → Bool
same_differences e d = same_as e.y d.y && same_as e.h d.h && same_as e.v d.v
