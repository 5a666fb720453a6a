-- The bounds that contracts ask of the figures that reach a step, in the sheet's units: no figure of a sheet that passes the check goes beyond them.
-- From H to q they are the ranges of the sheet. Most of those after are wider than today's sheet needs, so that they hold for the later forms of a sheet too,
-- which may bring their own steps, leave out latitude rows, or hold mapping radii.
use Rattle.std.specs.Prelude.{ℕ}

-- H, in 0.000001 ft to a second
abbrev pub most_h : ℕ
most_h = 102_000_000

-- V, in 0.000001 ft to a unit of q
abbrev pub most_v : ℕ
most_v = 1_400_000

-- a, in 0.001
abbrev pub most_a : ℕ
most_a = 2_000

-- b, in 0.001
abbrev pub most_b : ℕ
most_b = 20_000

-- c, in 0.001 ft
abbrev pub most_c : ℕ
most_c = 2_000

-- P, in 0.00001 ft to the square of 10,000 ft
abbrev pub most_p : ℕ
most_p = 1_000_000

-- M, in 10⁻⁷ seconds to a foot
abbrev pub most_m : ℕ
most_m = 1_000_000

-- d, in 0.01 ft
abbrev pub most_d : ℕ
most_d = 100

-- s, the size of L, in 0.001″: no kind 3 row stands beyond 6,000″
abbrev pub most_s : ℕ
most_s = 6_000_000

-- q, in 0.001: (6,000/100)²
abbrev pub most_q : ℕ
most_q = 3_600_000

-- the size of x' in the inverse, in 0.01 ft: the last of ten kind 5 rows stands at 450,000 ft, and at 900,000 ft in a later form, whose sheet brings its own steps
abbrev pub most_x : ℕ
most_x = 90_000_000

-- the size of any 32-bit number: a word, and x' within 200 kind 6 rows, at 995,000 ft, and at 19,900,000 ft in a later form, whose sheet brings its own steps
abbrev pub most_word : ℕ
most_word = 2_147_483_648

-- a figure in a table's row: any word, and a mapping radius in 0.01 ft, below 100,000,000 ft
abbrev pub most_row : ℕ
most_row = 10_000_000_000

-- how many rows a table has: 1,200 are latitude's most
abbrev pub most_count : ℕ
most_count = 10_000

-- a table's step, in the point's unit: 10,000,000 is kind 4's, and in a later form latitude rows may stand up to 1,666 minutes apart
abbrev pub most_step : ℕ
most_step = 100_000_000

-- the gap from one latitude row's y0 to the next one's, in 0.01 ft: 615,000 a minute, and no y0 is above 999,999,999
abbrev pub most_gap : ℕ
most_gap = 1_000_000_000

-- the scale of a per-second column: 1000 for Δy, 100 for ΔH and ΔV
abbrev pub most_scale : ℕ
most_scale = 1_000

-- The change of a latitude figure to the next row, where their bounds hold: y0's is the greatest, 615,000.
abbrev pub most_change : ℕ
most_change = 1_000_000

-- what `nearest` divides, and by what: so that the first fits a signed number of 64 bits, and twice the second an unsigned one
abbrev pub most_numerator : ℕ
most_numerator = 8_000_000_000_000_000_000

abbrev pub most_divisor : ℕ
most_divisor = 1_000_000_000_000_000_000
