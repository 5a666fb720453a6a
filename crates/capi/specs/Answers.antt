-- What a C function answers: the operation's own answer, field by field.
use Rattle.std.specs.Prelude.{Bool, ℕ, ℤ}
use Rattle.contents.specs.Contents.{Verdict}
use Rattle.forward.specs.Forward.{PlaneTold}
use Rattle.inverse.specs.Inverse.{GeographicTold}
use Rattle.convergence.specs.Grid.{GridTold}
use Rattle.touched.specs.Touched.{TouchTold}
use Rattle.batch.specs.Batch.{BatchedTold}
use Rattle.door.specs.declared.Point.{Point}
use Rattle.door.specs.Door.{Answer}
use Rattle.door.specs.Door.{number_of, first_of, second_of, half_of}
use Rattle.capi.specs.declared.CheckAnswer.{CheckAnswer}
use Rattle.capi.specs.declared.PlaneAnswer.{PlaneAnswer}
use Rattle.capi.specs.declared.GeographicAnswer.{GeographicAnswer}
use Rattle.capi.specs.declared.GridAnswer.{GridAnswer}
use Rattle.capi.specs.declared.TouchAnswer.{TouchAnswer}
use Rattle.capi.specs.declared.BatchAnswer.{BatchAnswer}
use Rattle.capi.specs.declared.DoorPoint.{DoorPoint}
use Rattle.capi.specs.declared.DoorAnswer.{DoorAnswer}

-- "The check answers number, kind, row."
abbrev pub check_answer : Verdict → CheckAnswer
check_answer v = record { number = v.number; kind = v.kind; row = v.row }

-- Each conversion's number, its two values, and whether some rounding met a half.
abbrev pub plane : ℕ → ℤ → ℤ → Bool → PlaneAnswer
plane number x y half = record { number = number; x = x; y = y; half = half }

abbrev pub plane_answer : PlaneTold → PlaneAnswer
plane_answer r = plane r.number r.x r.y r.half

abbrev pub geographic : ℕ → ℤ → ℤ → Bool → GeographicAnswer
geographic number latitude longitude half = record { number = number; latitude = latitude; longitude = longitude; half = half }

abbrev pub geographic_answer : GeographicTold → GeographicAnswer
geographic_answer r = geographic r.number r.latitude r.longitude r.half

abbrev pub grid : ℕ → ℤ → ℤ → Bool → GridAnswer
grid number convergence scale half = record { number = number; convergence = convergence; scale = scale; half = half }

abbrev pub grid_answer : GridTold → GridAnswer
grid_answer r = grid r.number r.convergence r.scale r.half

-- Whether a correction may touch a point.
abbrev pub touch_answer : TouchTold → TouchAnswer
touch_answer t = record { number = t.number; touched = t.touched }

-- "the answer is a number and the count of points with number 0"
abbrev pub batch_answer : BatchedTold → BatchAnswer
batch_answer b = record { number = b.number; count = b.count }

-- "hand over a point as two f64 counts"
abbrev pub door_point : DoorPoint → Point
door_point p = record { first = p.first; second = p.second }

-- "and get two f64 counts or a refusal number": the door's number, values and mark for each of its cases; a refusal has zeros and no half.
unfoldable pub door_answer : Answer → DoorAnswer
door_answer r = record { number = number_of r; first = first_of r; second = second_of r; half = half_of r }
