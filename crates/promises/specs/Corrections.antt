-- Demand 3, over the public operations' own definitions: what is promised of a correction of the minute's latitude row to the figures f, on a sheet s that passes, and of the points
-- that it does not touch. Latitudes and longitudes are in 0.001″, x and y in 0.01 ft.
use Rattle.std.specs.Prelude.{◌≡◌, true, false, List, ◌⊎◌, ℕ, ◌+◌, ◌-◌, ◌*◌, ◌<◌, ◌≤◌, ℤ, pos, neg_ℤ, nat_abs, ◌-ℤ◌, ◌*ℤ◌, length, get_or}
use Rattle.std.specs.Int.Signed.{le_z}
use Rattle.refusals.specs.Ladder.{need}
use Rattle.entries.specs.Layout.{latitude, width_of, one_minute}
use Rattle.entries.specs.Entries.{start_of, rows_of, body_of}
use Rattle.contents.specs.Contents.{verdict}
use Rattle.rules.specs.declared.Figures.{Figures}
use Rattle.latitude_rows.specs.Rows.{figures_at, row_at}
use Rattle.sheet_check.specs.Check.{check_of}
use Rattle.tables.specs.Figures.{y0_of}
use Rattle.extent.specs.Extent.{x_prime, easting_known, northing_known}
use Rattle.forward.specs.Forward.{forward_of}
use Rattle.inverse.specs.Inverse.{reduced_northing, inverse_of}
use Rattle.convergence.specs.Grid.{grid_of}
use Rattle.convert.specs.Conversions.{geographic_to_plane, plane_to_geographic, convergence_and_scale}
use Rattle.correct.specs.Correction.{correction_of, with_row, corrected_of}
use Rattle.touched.specs.Touched.{touch, has_minute, row_named, geographic_touched, plane_touched}
use Rattle.batch.specs.Batch.{pairs, point_at, answered, after_pairs, taken, batched, batch_of, answers_of}
use Rattle.door.specs.declared.Point.{Point}
use Rattle.counts.specs.Whole.{whole_of}
use Rattle.counts.specs.Whole as counts
use Rattle.door.specs.Door.{Answer}
use Rattle.door.specs.Door.{number_of, first_of, second_of, half_of, counts_of, door_of, plane_answer, geographic_answer, grid_answer, to_plane, to_geographic, to_grid}
use Rattle.door.specs.Meaning.{Tells}

-- "A pass is 0 0 0."
abbrev pub Passes : List ℕ → Type 0
Passes s = check_of s ≡ verdict 0 0 0

-- Figures of signed 32-bit numbers, as a correction takes them.
abbrev pub Word : ℤ → Type 0
Word z = (le_z (neg_ℤ (pos 2_147_483_648)) z ≡ true) × (le_z z (pos 2_147_483_647) ≡ true)

abbrev pub Words : Figures → Type 0
Words f = Word f.y0 × Word f.h × Word f.v × Word f.a

-- The sheet with f in the minute's row, its minute kept, and the differences of that row and the row before reworked, where they fit a word.
abbrev pub put_in : List ℕ → ℤ → Figures → List ℕ
put_in s minute f = with_row s (row_named s minute) f

-- Outside the two intervals beside the row: the latitude lies a minute or more from the row's.
abbrev pub FarLatitude : ℤ → ℤ → Type 0
FarLatitude minute north = one_minute ≤ nat_abs (north -ℤ minute *ℤ pos one_minute)

-- The same of a plane point, judged by its reduced northing: at or below y0 of the row before, or at or above y0 of the row after, where there is one. What 12 or 13 refuses has no
-- reduced northing, and counts as outside.
abbrev pub FarNorthing : List ℕ → ℕ → ℤ → Type 0
FarNorthing s r reduced = ((0 < r) × (le_z reduced (y0_of s (r - 1)) ≡ true)) ⊎ ((r + 1 < rows_of s latitude) × (le_z (y0_of s (r + 1)) reduced ≡ true))

abbrev pub FarPlane : List ℕ → ℤ → ℤ → ℤ → Type 0
FarPlane s minute x y =
    easting_known s (x_prime s x) ≡ true → northing_known s y ≡ true → FarNorthing s (row_named s minute) (reduced_northing s (nat_abs (x_prime s x)) y)

-- The same of a tools' point: of the two counts that it is, where both floats are counts. Of any other the door tells 15, whatever the sheet.
abbrev pub OfCounts : Point → (ℤ → ℤ → Type 0) → Type 0
OfCounts p Far = counts.number_of (whole_of p.first) ≡ 0 → counts.number_of (whole_of p.second) ≡ 0 → Far (counts.value_of (whole_of p.first)) (counts.value_of (whole_of p.second))

-- Two answers of the door are the same, and so are the paper's number and values of them, and their marks.
pub record SameTold (a b : Answer) : Type 0 where
  pub whole : a ≡ b
  pub numbered : number_of a ≡ number_of b
  pub one : first_of a ≡ first_of b
  pub two : second_of a ≡ second_of b
  pub marked : half_of a ≡ half_of b

-- ---- the correction itself
pub record Corrects (s : List ℕ) (minute : ℤ) (f : Figures) : Type 0 where
  -- "A correction to one latitude row is accepted exactly when the corrected sheet passes the whole check": only then, and always then.
  pub only_then : correction_of s minute f ≡ 0 → Passes (put_in s minute f)
  pub always_then : has_minute s minute ≡ true → Passes (put_in s minute f) → correction_of s minute f ≡ 0
  -- A minute with no row is 16.
  pub no_row : has_minute s minute ≡ false → correction_of s minute f ≡ 16
  -- "Accepted, it writes", and "Refused, it writes nothing."
  pub writes : correction_of s minute f ≡ 0 → corrected_of s minute f ≡ put_in s minute f
  pub stays : (correction_of s minute f ≡ 0 → ⊥) → corrected_of s minute f ≡ s
  -- "all other bytes stay": every byte q but those of the minute's row and of the row before it, where there is one.
  pub other_bytes : (q : ℕ) → (q < 4 * (start_of s latitude + width_of latitude * (row_named s minute - 1))) ⊎ (4 * (start_of s latitude + width_of latitude * row_named s minute + width_of latitude) ≤ q)
      → get_or (corrected_of s minute f) q 0 ≡ get_or s q 0

-- ---- after a correction that was accepted
pub record Afresh (s : List ℕ) (minute : ℤ) (f : Figures) : Type 0 where
  -- The row has the new figures, and every other row its own.
  pub new_figures : figures_at (body_of (corrected_of s minute f) latitude) (row_named s minute) ≡ f
  pub old_figures : (i : ℕ) → (i ≡ row_named s minute → ⊥) → figures_at (body_of (corrected_of s minute f) latitude) i ≡ figures_at (body_of s latitude) i
  -- "the answers must be those worked afresh": each conversion, its mark included, is the Survey's steps on the corrected sheet.
  pub forward : (north west : ℤ) → geographic_to_plane (corrected_of s minute f) north west ≡ forward_of (put_in s minute f) north west
  pub inverse : (x y : ℤ) → plane_to_geographic (corrected_of s minute f) x y ≡ inverse_of (put_in s minute f) x y
  pub grid : (x y : ℤ) → convergence_and_scale (corrected_of s minute f) x y ≡ grid_of (put_in s minute f) x y
  -- So is each point of a batch, which 17 alone can refuse.
  pub batch_point : (points : List ℤ) (i : ℕ) → point_at (corrected_of s minute f) points i ≡ forward_of (put_in s minute f) (get_or points (2 * i) (pos 0)) (get_or points (2 * i + 1) (pos 0))
  pub batch : (points old : List ℤ)
      → batch_of (corrected_of s minute f) points old ≡ need (taken (length points) (length old)) (batched 17 0) (batched 0 (answered (put_in s minute f) points (pairs points)))
  pub batch-memory : (points old : List ℤ)
      → answers_of (corrected_of s minute f) points old ≡ need (taken (length points) (length old)) old (after_pairs (put_in s minute f) points (pairs points) old)
  -- And so is what the tools' door tells, which 15 comes before.
  pub door_plane : (p : Point) → to_plane (corrected_of s minute f) p ≡ door_of (counts_of p) (λ north west. plane_answer (forward_of (put_in s minute f) north west))
  pub door_geographic : (p : Point) → to_geographic (corrected_of s minute f) p ≡ door_of (counts_of p) (λ x y. geographic_answer (inverse_of (put_in s minute f) x y))
  pub door_grid : (p : Point) → to_grid (corrected_of s minute f) p ≡ door_of (counts_of p) (λ x y. grid_answer (grid_of (put_in s minute f) x y))
  -- In the paper's number and values of each case of its answer, and its mark: those of the steps, where both floats are counts, else 15, zeros and no half.
  pub told-plane : let steps = forward_of (put_in s minute f) in Tells (to_plane (corrected_of s minute f)) (λ north west. (steps north west).number) (λ north west. (steps north west).x) (λ north west. (steps north west).y)
      (λ north west. (steps north west).half)
  pub told-geographic : let steps = inverse_of (put_in s minute f) in Tells (to_geographic (corrected_of s minute f)) (λ x y. (steps x y).number) (λ x y. (steps x y).latitude) (λ x y. (steps x y).longitude)
      (λ x y. (steps x y).half)
  pub told-grid : let steps = grid_of (put_in s minute f) in Tells (to_grid (corrected_of s minute f)) (λ x y. (steps x y).number) (λ x y. (steps x y).convergence) (λ x y. (steps x y).scale)
      (λ x y. (steps x y).half)

pub record Local (s : List ℕ) (minute : ℤ) (f : Figures) : Type 0 where
  -- "no point outside the two intervals beside that row changes": the whole answer, refusals and marks included.
  pub forward : (north west : ℤ) → FarLatitude minute north → geographic_to_plane (corrected_of s minute f) north west ≡ geographic_to_plane s north west
  pub inverse : (x y : ℤ) → FarPlane s minute x y → plane_to_geographic (corrected_of s minute f) x y ≡ plane_to_geographic s x y
  -- Convergence and scale never change.
  pub grid : (x y : ℤ) → convergence_and_scale (corrected_of s minute f) x y ≡ convergence_and_scale s x y
  -- A batch's three words for a point i outside the two intervals: word k of them is as before.
  pub batch : (points old : List ℤ) (i k : ℕ) → i < pairs points → k < 3 → FarLatitude minute (get_or points (2 * i) (pos 0))
      → get_or (answers_of (corrected_of s minute f) points old) (3 * i + k) (pos 0) ≡ get_or (answers_of s points old) (3 * i + k) (pos 0)
  -- And what the tools' door tells.
  pub door_plane : (p : Point) → OfCounts p (λ north west. FarLatitude minute north) → SameTold (to_plane (corrected_of s minute f) p) (to_plane s p)
  pub door_geographic : (p : Point) → OfCounts p (FarPlane s minute) → SameTold (to_geographic (corrected_of s minute f) p) (to_geographic s p)
  pub door_grid : (p : Point) → SameTold (to_grid (corrected_of s minute f) p) (to_grid s p)

-- "Which of my four thousand points do I redo?" Where the answer is no, the point's answer, its mark included, is as before; and the question may be put to the old sheet or to the new.
pub record Untouched (s : List ℕ) (minute : ℤ) (f : Figures) : Type 0 where
  pub forward : (north west : ℤ) → geographic_touched s minute north west ≡ touch 0 false → geographic_to_plane (corrected_of s minute f) north west ≡ geographic_to_plane s north west
  pub inverse : (x y : ℤ) → plane_touched s minute x y ≡ touch 0 false → plane_to_geographic (corrected_of s minute f) x y ≡ plane_to_geographic s x y
  pub either_forward : (north west : ℤ) → geographic_touched (corrected_of s minute f) minute north west ≡ geographic_touched s minute north west
  pub either_inverse : (x y : ℤ) → plane_touched (corrected_of s minute f) minute x y ≡ plane_touched s minute x y

-- Each row can be corrected: its minute names it.
pub record Named (s : List ℕ) (r : ℕ) : Type 0 where
  pub has : has_minute s (row_at (body_of s latitude) r).minute ≡ true
  pub row : row_named s (row_at (body_of s latitude) r).minute ≡ r

-- ---- demand 3: of every sheet that passes, every minute and all figures of 32 bits
abbrev pub Demand3 : Type 0
Demand3 =
    (s : List ℕ) → Passes s → (minute : ℤ) (f : Figures) → Words f
    → Corrects s minute f × (correction_of s minute f ≡ 0 → Afresh s minute f × Local s minute f × Untouched s minute f)

abbrev pub EachRow : Type 0
EachRow = (s : List ℕ) → Passes s → (r : ℕ) → r < rows_of s latitude → Named s r
