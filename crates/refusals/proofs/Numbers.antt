-- A refusal's number is not 0, which accepts, and at most 18. Assumes nothing.
use mathlib.Core.Path.{◌≡◌}
use Prim.Native.Nat.{◌≤◌}
use native.Mathlib.Omega.{arith}
use lib.Dec.{lit≤}
use Rattle.refusals.specs.declared.Refusal.{Refusal}
use Rattle.refusals.specs.declared.Refusal.TheVariants.{Length, Kind, Repeated, Rows, Place, Range, Minute, Bound, Difference, Latitude, Longitude, Easting, Northing, Reduced, Float, NoRow, Batch, Line}
use Rattle.refusals.specs.Numbers.{number_of}

pub number-some : (r : Refusal) → number_of r ≡ 0 → ⊥
number-some Length e = omega (arith, e)
number-some Kind e = omega (arith, e)
number-some Repeated e = omega (arith, e)
number-some Rows e = omega (arith, e)
number-some Place e = omega (arith, e)
number-some Range e = omega (arith, e)
number-some Minute e = omega (arith, e)
number-some Bound e = omega (arith, e)
number-some Difference e = omega (arith, e)
number-some Latitude e = omega (arith, e)
number-some Longitude e = omega (arith, e)
number-some Easting e = omega (arith, e)
number-some Northing e = omega (arith, e)
number-some Reduced e = omega (arith, e)
number-some Float e = omega (arith, e)
number-some NoRow e = omega (arith, e)
number-some Batch e = omega (arith, e)
number-some Line e = omega (arith, e)

pub number-most : (r : Refusal) → number_of r ≤ 18
number-most Length = lit≤ tt
number-most Kind = lit≤ tt
number-most Repeated = lit≤ tt
number-most Rows = lit≤ tt
number-most Place = lit≤ tt
number-most Range = lit≤ tt
number-most Minute = lit≤ tt
number-most Bound = lit≤ tt
number-most Difference = lit≤ tt
number-most Latitude = lit≤ tt
number-most Longitude = lit≤ tt
number-most Easting = lit≤ tt
number-most Northing = lit≤ tt
number-most Reduced = lit≤ tt
number-most Float = lit≤ tt
number-most NoRow = lit≤ tt
number-most Batch = lit≤ tt
number-most Line = lit≤ tt
