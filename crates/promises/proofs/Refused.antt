-- A refused conversion carries zeros and no half: on every sheet, and for every point. Assumes nothing.
use mathlib.Core.List.{List}
use Prim.Native.Nat.{ℕ}
use lib.IntN.{ℤ}
use Rattle.convert.specs.Conversions.{geographic_to_plane, plane_to_geographic, convergence_and_scale}
use Rattle.convert.proofs.Zeros.{plane_zeros, geographic_zeros, grid_zeros}
use Rattle.promises.specs.Conversions.{ZerosRefused}

module _ (s : List ℕ) where
  pub plane-refused : (north west : ℤ) → let r = geographic_to_plane s north west in ZerosRefused r.number r.x r.y r.half
  plane-refused north west = (plane_zeros s north west).zeros

  pub geographic-refused : (x y : ℤ) → let r = plane_to_geographic s x y in ZerosRefused r.number r.latitude r.longitude r.half
  geographic-refused x y = (geographic_zeros s x y).zeros

  pub grid-refused : (x y : ℤ) → let r = convergence_and_scale s x y in ZerosRefused r.number r.convergence r.scale r.half
  grid-refused x y = (grid_zeros s x y).zeros
