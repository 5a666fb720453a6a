-- The Survey's printed steps, one definition a step, over whole numbers in the sheet's and the point's units.
-- A figure that cannot be negative, and a size that is given, is a ℕ. a, b, c, d and a signed x' are ℤ, and so is what is worked from them: also the sizes of x' and of L, since a·b may be negative.
-- A step is a fraction. `exact..` is what stands above its line. The step rounds once, by nearest, and its `..Half` says whether its "exact value was a half".
use Rattle.std.specs.Prelude.{Bool, ℕ, ◌*◌, ℤ, pos, ◌+ℤ◌, ◌-ℤ◌, ◌*ℤ◌}
use Rattle.rounding.specs.Nearest.{nearest_size, nearest, on_half_size, on_half}

-- ---- geographic to plane

-- "q = (s/100)² to 0.001." s in 0.001″, q in 0.001: the square of s/100 has the unit 10⁻¹⁰.
abbrev pub exact_q : ℕ → ℕ
exact_q s = s * s

unfoldable pub q_of : ℕ → ℕ
q_of s = nearest_size (exact_q s) 10_000_000

unfoldable pub q_half : ℕ → Bool
q_half s = on_half_size (exact_q s) 10_000_000

-- "The size of x' is the nearest hundredth of H·s + a·b": H in 0.000001, s, a, b in 0.001, the size in 0.01 ft. H·s has the unit 10⁻⁹, a·b 10⁻⁶.
abbrev pub exact_x : ℕ → ℕ → ℤ → ℤ → ℤ
exact_x h s a b = pos (h * s) +ℤ a *ℤ b *ℤ pos 1_000

unfoldable pub size_of_x : ℕ → ℕ → ℤ → ℤ → ℤ
size_of_x h s a b = nearest (exact_x h s a b) 10_000_000

unfoldable pub size_of_x_half : ℕ → ℕ → ℤ → ℤ → Bool
size_of_x_half h s a b = on_half (exact_x h s a b) 10_000_000

-- "nearest hundredth of (V·q + c)": V in 0.000001, q and c in 0.001, the rise in 0.01 ft. V·q has the unit 10⁻⁹.
abbrev pub exact_rise : ℕ → ℕ → ℤ → ℤ
exact_rise v q c = pos (v * q) +ℤ c *ℤ pos 1_000_000

unfoldable pub rise : ℕ → ℕ → ℤ → ℤ
rise v q c = nearest (exact_rise v q c) 10_000_000

unfoldable pub rise_half : ℕ → ℕ → ℤ → Bool
rise_half v q c = on_half (exact_rise v q c) 10_000_000

-- ---- plane to geographic

-- "nearest hundredth of (P(x'/10,000)² + d)": P in 0.00001, the size x of x' and d in 0.01 ft, the answer in 0.01 ft. P times the square of x'/10,000 has the unit 10⁻¹⁷, d 10⁻².
abbrev pub exact_reduction : ℕ → ℕ → ℤ → ℤ
exact_reduction p x d = pos (p * (x * x)) +ℤ d *ℤ pos 1_000_000_000_000_000

unfoldable pub reduction : ℕ → ℕ → ℤ → ℤ
reduction p x d = nearest (exact_reduction p x d) 1_000_000_000_000_000

unfoldable pub reduction_half : ℕ → ℕ → ℤ → Bool
reduction_half p x d = on_half (exact_reduction p x d) 1_000_000_000_000_000

-- "seconds = 60(reduced − y0)/(y0 next − y0), to 0.001": span is the 60 in 0.001″, past is reduced − y0 and gap is y0 next − y0, both in 0.01 ft.
-- It comes to the whole span where past is the gap, or just short of it: what that means for the minute is the inverse's to say.
abbrev pub exact_seconds : ℕ → ℕ → ℕ
exact_seconds span past = span * past

unfoldable pub seconds : ℕ → ℕ → ℕ → ℕ
seconds span past gap = nearest_size (exact_seconds span past) gap

unfoldable pub seconds_half : ℕ → ℕ → ℕ → Bool
seconds_half span past gap = on_half_size (exact_seconds span past) gap

-- "Approximate L = |x'|/H to a whole second": the size x of x' in 0.01 ft, H in 0.000001.
abbrev pub exact_approximate : ℕ → ℕ
exact_approximate x = x * 10_000

unfoldable pub approximate_l : ℕ → ℕ → ℕ
approximate_l x h = nearest_size (exact_approximate x) h

unfoldable pub approximate_l_half : ℕ → ℕ → Bool
approximate_l_half x h = on_half_size (exact_approximate x) h

-- "The size of L is (|x'| − a·b)/H to 0.001": the size x of x' in 0.01 ft, a and b in 0.001, H in 0.000001, the size in 0.001″.
abbrev pub exact_l : ℕ → ℤ → ℤ → ℤ
exact_l x a b = (pos (x * 10_000) -ℤ a *ℤ b) *ℤ pos 1_000

unfoldable pub size_of_l : ℕ → ℤ → ℤ → ℕ → ℤ
size_of_l x a b h = nearest (exact_l x a b) h

unfoldable pub size_of_l_half : ℕ → ℤ → ℤ → ℕ → Bool
size_of_l_half x a b h = on_half (exact_l x a b) h

-- ---- convergence

-- "Δα = M·x' to 0.1″": M in 10⁻⁷, x' in 0.01 ft, Δα in 0.1″. M·x' has the unit 10⁻⁹.
abbrev pub exact_convergence : ℕ → ℤ → ℤ
exact_convergence m x = pos m *ℤ x

unfoldable pub convergence : ℕ → ℤ → ℤ
convergence m x = nearest (exact_convergence m x) 100_000_000

unfoldable pub convergence_half : ℕ → ℤ → Bool
convergence_half m x = on_half (exact_convergence m x) 100_000_000

-- ---- a sheet's per-second columns

-- "Δy, ΔH and ΔV are the differences over 60 seconds: nearest whole to 1000(y0 next − y0)/60, 100(H − H next)/60, 100(V next − V)/60".
-- The scale is 1000 for Δy and 100 for the others; the difference is the next row's figure less this one's, and for ΔH this one's less the next.
-- With these scales the fraction has thirds only, "(no half can occur)", so there is no `..Half`.
unfoldable pub per_second : ℕ → ℤ → ℤ
per_second scale difference = nearest (pos scale *ℤ difference) 60
