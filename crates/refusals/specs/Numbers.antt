-- The refusals' numbers: "Refusal numbers". In code a refusal is a case of an enum; the definitions of this and other crates speak of its number, as the rules do.
use Rattle.std.specs.Prelude.{ℕ, Result, Ok, Err}
use Rattle.refusals.specs.declared.Refusal.{Refusal}
use Rattle.refusals.specs.declared.Refusal.TheVariants.{Length, Kind, Repeated, Rows, Place, Range, Minute, Bound, Difference, Latitude, Longitude, Easting, Northing, Reduced, Float, NoRow, Batch, Line}

abbrev pub number_of : Refusal → ℕ
number_of Length = 1
number_of Kind = 2
number_of Repeated = 3
number_of Rows = 4
number_of Place = 5
number_of Range = 6
number_of Minute = 7
number_of Bound = 8
number_of Difference = 9
number_of Latitude = 10
number_of Longitude = 11
number_of Easting = 12
number_of Northing = 13
number_of Reduced = 14
number_of Float = 15
number_of NoRow = 16
number_of Batch = 17
number_of Line = 18

-- The number of an answer: "0 accepted".
abbrev pub number : {A : Type 0} → Result A Refusal → ℕ
number (Ok a) = 0
number (Err r) = number_of r
