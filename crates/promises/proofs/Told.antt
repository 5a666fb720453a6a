-- What code answers is told whole: two answers that are told alike are the same. Assumes nothing.
use Prim.{Unit}
use mathlib.Core.Path.{◌≡◌, refl, sym, ap, ◌∙◌}
use mathlib.Core.Bool.{Bool, cond}
use Prim.Native.Nat.{ℕ}
use lib.Dec.{eqb}
use Rattle.std.proofs.Common.{Result, Ok, Err}
use Rattle.refusals.specs.declared.Refusal.{Refusal}
use Rattle.refusals.specs.declared.Refusal.TheVariants.{Length, Kind, Repeated, Rows, Place, Range, Minute, Bound, Difference, Latitude, Longitude, Easting, Northing, Reduced, Float, NoRow, Batch, Line}
use Rattle.refusals.specs.Numbers.{number_of, number}
use Rattle.refusals.proofs.Numbers.{number-some}
use Rattle.contents.specs.declared.Refused.{Refused}
use Rattle.contents.specs.Contents.{Verdict, verdict_told}
use Rattle.forward.specs.declared.Plane.{Plane}
use Rattle.forward.specs.Forward.{PlaneTold, plane_told}
use Rattle.inverse.specs.declared.Geographic.{Geographic}
use Rattle.inverse.specs.Inverse.{GeographicTold, geographic_told}
use Rattle.convergence.specs.declared.Grid.{Grid}
use Rattle.convergence.specs.Grid.{GridTold, grid_told}
use Rattle.touched.specs.Touched.{TouchTold, touch_told}
use Rattle.batch.specs.Batch.{BatchedTold, batch_told}
use Rattle.door.specs.declared.TwoCounts.{TwoCounts}
use Rattle.door.specs.Door as door
use Rattle.door.specs.Door.{door_told, first_of, second_of, half_of}

-- ---- a refusal is known by its number
of_number : ℕ → Refusal
of_number n =
    cond (eqb n 1) Length
    (cond (eqb n 2) Kind
    (cond (eqb n 3) Repeated
    (cond (eqb n 4) Rows
    (cond (eqb n 5) Place
    (cond (eqb n 6) Range
    (cond (eqb n 7) Minute
    (cond (eqb n 8) Bound
    (cond (eqb n 9) Difference
    (cond (eqb n 10) Latitude
    (cond (eqb n 11) Longitude
    (cond (eqb n 12) Easting
    (cond (eqb n 13) Northing
    (cond (eqb n 14) Reduced
    (cond (eqb n 15) Float
    (cond (eqb n 16) NoRow
    (cond (eqb n 17) Batch
    Line))))))))))))))))

known : (r : Refusal) → of_number (number_of r) ≡ r
unfolding of_number
known Length = refl
known Kind = refl
known Repeated = refl
known Rows = refl
known Place = refl
known Range = refl
known Minute = refl
known Bound = refl
known Difference = refl
known Latitude = refl
known Longitude = refl
known Easting = refl
known Northing = refl
known Reduced = refl
known Float = refl
known NoRow = refl
known Batch = refl
known Line = refl

pub same-refusal : (r t : Refusal) → number_of r ≡ number_of t → r ≡ t
same-refusal r t e = sym (known r) ∙ ap of_number e ∙ known t

-- ---- an answer that is told with a number, 0 where it is accepted
module _ {A E T : Type 0} (told : Result A E → T) (number : T → ℕ) (of : E → Refusal) (passes : (a : A) → number (told (Ok a)) ≡ 0) (fails : (r : E) → number (told (Err r)) ≡ number_of (of r))
    (ok : (a b : A) → told (Ok a) ≡ told (Ok b) → a ≡ b) (err : (r t : E) → told (Err r) ≡ told (Err t) → r ≡ t) where
  same : (r t : Result A E) → told r ≡ told t → r ≡ t
  same (Ok a) (Ok b) e = ap Ok (ok a b e)
  same (Err r) (Err t) e = ap Err (err r t e)
  same (Ok a) (Err r) e = absurd (number-some (of r) (sym (fails r) ∙ sym (ap number e) ∙ passes a))
  same (Err r) (Ok a) e = absurd (number-some (of r) (sym (fails r) ∙ ap number e ∙ passes a))

pub same-number : (r t : Result (Unit {0}) Refusal) → number r ≡ number t → r ≡ t
same-number = same number (λ n. n) (λ r. r) (λ a. refl) (λ r. refl) (λ a b e. refl) same-refusal

pub same-touch : (r t : Result Bool Refusal) → touch_told r ≡ touch_told t → r ≡ t
same-touch = same touch_told (λ t. t.number) (λ r. r) (λ a. refl) (λ r. refl) (λ a b e. ap (λ (t : TouchTold). t.touched) e) (λ r t e. same-refusal r t (ap (λ (t : TouchTold). t.number) e))

pub same-batch : (r t : Result ℕ Refusal) → batch_told r ≡ batch_told t → r ≡ t
same-batch = same batch_told (λ t. t.number) (λ r. r) (λ a. refl) (λ r. refl) (λ a b e. ap (λ (t : BatchedTold). t.count) e) (λ r t e. same-refusal r t (ap (λ (t : BatchedTold). t.number) e))

-- ---- the check
refused-as : (r t : Refused) → r.refusal ≡ t.refusal → r.kind ≡ t.kind → r.row ≡ t.row → r ≡ t
refused-as r t e f g =
    let whole : ◌≡◌ {A = Refused} (record { refusal = r.refusal; kind = r.kind; row = r.row }) (record { refusal = t.refusal; kind = t.kind; row = t.row }) = rw (e, f, g) in
    whole

pub same-check : (r t : Result (Unit {0}) Refused) → verdict_told r ≡ verdict_told t → r ≡ t
same-check =
    same verdict_told (λ v. v.number) (λ r. r.refusal) (λ a. refl) (λ r. refl) (λ a b e. refl)
    (λ r t e. refused-as r t (same-refusal r.refusal t.refusal (ap (λ (v : Verdict). v.number) e)) (ap (λ (v : Verdict). v.kind) e) (ap (λ (v : Verdict). v.row) e))

-- ---- the conversions
plane-as : (p q : Plane) → p.x ≡ q.x → p.y ≡ q.y → p.half ≡ q.half → p ≡ q
plane-as p q e f g =
    let whole : ◌≡◌ {A = Plane} (record { x = p.x; y = p.y; half = p.half }) (record { x = q.x; y = q.y; half = q.half }) = rw (e, f, g) in
    whole

pub same-plane : (r t : Result Plane Refusal) → plane_told r ≡ plane_told t → r ≡ t
same-plane =
    same plane_told (λ t. t.number) (λ r. r) (λ p. refl) (λ r. refl)
    (λ p q e. plane-as p q (ap (λ (t : PlaneTold). t.x) e) (ap (λ (t : PlaneTold). t.y) e) (ap (λ (t : PlaneTold). t.half) e))
    (λ r t e. same-refusal r t (ap (λ (t : PlaneTold). t.number) e))

geographic-as : (p q : Geographic) → p.latitude ≡ q.latitude → p.longitude ≡ q.longitude → p.half ≡ q.half → p ≡ q
geographic-as p q e f g =
    let whole : ◌≡◌ {A = Geographic} (record { latitude = p.latitude; longitude = p.longitude; half = p.half }) (record { latitude = q.latitude; longitude = q.longitude; half = q.half }) = rw (e, f, g) in
    whole

pub same-geographic : (r t : Result Geographic Refusal) → geographic_told r ≡ geographic_told t → r ≡ t
same-geographic =
    same geographic_told (λ t. t.number) (λ r. r) (λ p. refl) (λ r. refl)
    (λ p q e. geographic-as p q (ap (λ (t : GeographicTold). t.latitude) e) (ap (λ (t : GeographicTold). t.longitude) e) (ap (λ (t : GeographicTold). t.half) e))
    (λ r t e. same-refusal r t (ap (λ (t : GeographicTold). t.number) e))

grid-as : (p q : Grid) → p.convergence ≡ q.convergence → p.scale ≡ q.scale → p.half ≡ q.half → p ≡ q
grid-as p q e f g =
    let whole : ◌≡◌ {A = Grid} (record { convergence = p.convergence; scale = p.scale; half = p.half }) (record { convergence = q.convergence; scale = q.scale; half = q.half }) = rw (e, f, g) in
    whole

pub same-grid : (r t : Result Grid Refusal) → grid_told r ≡ grid_told t → r ≡ t
same-grid =
    same grid_told (λ t. t.number) (λ r. r) (λ p. refl) (λ r. refl)
    (λ p q e. grid-as p q (ap (λ (t : GridTold). t.convergence) e) (ap (λ (t : GridTold). t.scale) e) (ap (λ (t : GridTold). t.half) e))
    (λ r t e. same-refusal r t (ap (λ (t : GridTold). t.number) e))

-- ---- the door
counts-as : (p q : TwoCounts) → p.first ≡ q.first → p.second ≡ q.second → p.half ≡ q.half → p ≡ q
counts-as p q e f g =
    let whole : ◌≡◌ {A = TwoCounts} (record { first = p.first; second = p.second; half = p.half }) (record { first = q.first; second = q.second; half = q.half }) = rw (e, f, g) in
    whole

pub same-door : (r t : Result TwoCounts Refusal) → door_told r ≡ door_told t → r ≡ t
same-door =
    same door_told door.number_of (λ r. r) (λ p. refl) (λ r. refl)
    (λ p q e. counts-as p q (ap first_of e) (ap second_of e) (ap half_of e))
    (λ r t e. same-refusal r t (ap door.number_of e))
