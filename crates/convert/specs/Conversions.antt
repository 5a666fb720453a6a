-- The three conversions, on any bytes: the check's number first. s is the sheet.
use Rattle.std.specs.Prelude.{List, ℕ, ℤ}
use Rattle.refusals.specs.Ladder.{or_else}
use Rattle.sheet_check.specs.Check.{check_of}
use Rattle.forward.specs.Forward.{PlaneTold}
use Rattle.forward.specs.Forward.{no_plane, forward_of}
use Rattle.inverse.specs.Inverse.{GeographicTold}
use Rattle.inverse.specs.Inverse.{no_geographic, inverse_of}
use Rattle.convergence.specs.Grid.{GridTold}
use Rattle.convergence.specs.Grid.{no_grid, grid_of}

-- "Each conversion gives the check's number first, then its own": `refuse` makes the refusal with a number, `number` reads an answer's number, and `rest` is the answer after a check that passes.
abbrev pub after_check : {A : Type 0} → (A → ℕ) → (ℕ → A) → List ℕ → A → A
after_check number refuse s rest = or_else number (refuse (check_of s).number) rest

-- "Geographic to plane." Latitude and longitude in 0.001″.
unfoldable pub geographic_to_plane : List ℕ → ℤ → ℤ → PlaneTold
geographic_to_plane s north west = after_check (λ r. r.number) no_plane s (forward_of s north west)

-- "Plane to geographic." x and y in 0.01 ft.
unfoldable pub plane_to_geographic : List ℕ → ℤ → ℤ → GeographicTold
plane_to_geographic s x y = after_check (λ r. r.number) no_geographic s (inverse_of s x y)

-- "Convergence and scale", at a plane point.
unfoldable pub convergence_and_scale : List ℕ → ℤ → ℤ → GridTold
convergence_and_scale s x y = after_check (λ r. r.number) no_grid s (grid_of s x y)
