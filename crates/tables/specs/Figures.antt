-- A sheet's figures by name, at its rows and between them. s is the sheet.
-- H, V, P and M enter the steps as sizes, ℕ: their ranges keep them from being negative. The others are ℤ. Columns count from 0, in the order of the table of kinds.
use Rattle.std.specs.Prelude.{◌≡◌, Bool, List, ℕ, ℤ, pos, nat_abs, ◌*ℤ◌}
use Rattle.entries.specs.Layout.{zone, latitude, longitude, northing, easting, scale, width_of, one_minute}
use Rattle.entries.specs.Entries.{body_of, rows_of, step_of}
use Rattle.reading.specs.declared.At.{At}
use Rattle.reading.specs.Tables.{column, value_at, value_half, Among}
use Rattle.tables.specs.declared.Origin.{Origin}

-- The figure in row i of a column of the kind.
abbrev pub figure_of : List ℕ → ℕ → ℕ → ℕ → ℤ
figure_of s kind number i = column (body_of s kind) (width_of kind) number i

-- The figure of a column of the kind at an offset from row 0, by "Rounding and reading between rows" with the sheet's step of the kind.
abbrev pub figure_at : List ℕ → ℕ → ℕ → ℕ → ℤ
figure_at s kind number offset = value_at (figure_of s kind number) (step_of s kind) offset

-- The figure of a latitude column at a distance t from row 0: the rows stand a minute apart.
abbrev pub latitude_at : List ℕ → ℕ → ℕ → ℤ
latitude_at s number t = value_at (figure_of s latitude number) one_minute t

-- Whether `figure_at` was rounded from a half; `latitude_half` says so of `latitude_at`, and `y0_half`, `h_half` and so on, below, of the figure above them.
abbrev pub figure_half : List ℕ → ℕ → ℕ → ℕ → Bool
figure_half s kind number offset = value_half (figure_of s kind number) (step_of s kind) offset

abbrev pub latitude_half : List ℕ → ℕ → ℕ → Bool
latitude_half s number t = value_half (figure_of s latitude number) one_minute t

-- A position in the kind's table: among its rows, at its step.
pub record InTable (s : List ℕ) (kind : ℕ) (at : At) : Type 0 where
  pub among : Among (rows_of s kind) at
  pub step : at.step ≡ step_of s kind

-- ---- zone: "central meridian (0.001″); false easting C (0.01 ft)"
unfoldable pub central_meridian_of : List ℕ → ℤ
central_meridian_of s = figure_of s zone 0 0

unfoldable pub false_easting_of : List ℕ → ℤ
false_easting_of s = figure_of s zone 1 0

-- ---- latitude: "minute; y0 (0.01 ft); Δy .. ; H (0.000001); ΔH .. ; V (0.000001); ΔV .. ; a (0.001)". The differences are not read.
-- The latitude of row 0, in 0.001″, from its minute.
unfoldable pub first_latitude_of : List ℕ → ℤ
first_latitude_of s = figure_of s latitude 0 0 *ℤ pos one_minute

-- What the sheet's points are measured from.
unfoldable pub origin_of : List ℕ → Origin
origin_of s = record { first_latitude = first_latitude_of s; central_meridian = central_meridian_of s; false_easting = false_easting_of s }

-- y0 in row i.
unfoldable pub y0_of : List ℕ → ℕ → ℤ
y0_of s i = figure_of s latitude 1 i

-- At a distance t from row 0, in 0.001″ of latitude: "From latitude take y0, H, V, a".
unfoldable pub y0_at : List ℕ → ℕ → ℤ
y0_at s t = latitude_at s 1 t

unfoldable pub y0_half : List ℕ → ℕ → Bool
y0_half s t = latitude_half s 1 t

unfoldable pub h_at : List ℕ → ℕ → ℕ
h_at s t = nat_abs (latitude_at s 3 t)

unfoldable pub h_half : List ℕ → ℕ → Bool
h_half s t = latitude_half s 3 t

unfoldable pub v_at : List ℕ → ℕ → ℕ
v_at s t = nat_abs (latitude_at s 5 t)

unfoldable pub v_half : List ℕ → ℕ → Bool
v_half s t = latitude_half s 5 t

unfoldable pub a_at : List ℕ → ℕ → ℤ
a_at s t = latitude_at s 7 t

unfoldable pub a_half : List ℕ → ℕ → Bool
a_half s t = latitude_half s 7 t

-- ---- longitude: "b (0.001); c (0.001)", at a size of L in 0.001″
unfoldable pub b_at : List ℕ → ℕ → ℤ
b_at s size = figure_at s longitude 0 size

unfoldable pub b_half : List ℕ → ℕ → Bool
b_half s size = figure_half s longitude 0 size

unfoldable pub c_at : List ℕ → ℕ → ℤ
c_at s size = figure_at s longitude 1 size

unfoldable pub c_half : List ℕ → ℕ → Bool
c_half s size = figure_half s longitude 1 size

-- ---- northing: "P (0.00001); M (10⁻⁷)", at y in 0.01 ft
unfoldable pub p_at : List ℕ → ℕ → ℕ
p_at s y = nat_abs (figure_at s northing 0 y)

unfoldable pub p_half : List ℕ → ℕ → Bool
p_half s y = figure_half s northing 0 y

unfoldable pub m_at : List ℕ → ℕ → ℕ
m_at s y = nat_abs (figure_at s northing 1 y)

unfoldable pub m_half : List ℕ → ℕ → Bool
m_half s y = figure_half s northing 1 y

-- ---- easting: "d (0.01 ft)", and scale: "k (10⁻⁷)", at a size of x' in 0.01 ft
unfoldable pub d_at : List ℕ → ℕ → ℤ
d_at s size = figure_at s easting 0 size

unfoldable pub d_half : List ℕ → ℕ → Bool
d_half s size = figure_half s easting 0 size

unfoldable pub k_at : List ℕ → ℕ → ℤ
k_at s size = figure_at s scale 0 size

unfoldable pub k_half : List ℕ → ℕ → Bool
k_half s size = figure_half s scale 0 size
