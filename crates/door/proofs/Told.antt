-- What an answer of the door tells is the conversion's number, its two values and its mark, of a refusal zeros and no half; and 15 with those of a point that is no two counts.
-- Assumes nothing.
use mathlib.Core.Path.{◌≡◌, refl, sym, ap, ◌∙◌}
use mathlib.Core.Bool.{Bool, false}
use mathlib.Core.List.{List}
use Prim.Native.Nat.{ℕ, zero, suc}
use native.Mathlib.Omega.{arith}
use lib.IntN.{ℤ, pos}
use Rattle.convert.specs.Conversions.{geographic_to_plane, plane_to_geographic, convergence_and_scale}
use Rattle.convert.proofs.Zeros.{Zeroed, plane_zeros, geographic_zeros, grid_zeros}
use Rattle.door.specs.declared.Point.{Point}
use Rattle.std.specs.Prelude.{Option, Some, None}
use Rattle.door.specs.Door.{Answer}
use Rattle.door.specs.Door.Answer.{Refused}
use Rattle.counts.specs.Whole.{float, whole_of, value_of}
use Rattle.counts.specs.Whole as whole
use Rattle.door.specs.Door.{counts_of, answer_of, door_of, number_of, first_of, second_of, half_of, to_plane, to_geographic, to_grid}
use Rattle.door.specs.Meaning.{Told, Tells}
use Rattle.door.proofs.Ways.{first_none, second_none, both-counts, refuses, answers, before, after}

-- ---- an answer
told : (number : ℕ) (a b : ℤ) (half : Bool) → ((number ≡ 0 → ⊥) → (a ≡ pos 0) × (b ≡ pos 0) × (half ≡ false)) → Told (answer_of number a b half) number a b half
told zero a b half z =
    let e = answers zero a b half refl in
    record { numbered = ap number_of (sym e); one = ap first_of (sym e); two = ap second_of (sym e); marked = ap half_of (sym e) }
told (suc n) a b half z =
    let h : suc n ≡ 0 → ⊥ = λ e. omega arith in
    let e = refuses (suc n) a b half h in
    record {
      numbered = ap number_of (sym e);
      one = ap first_of (sym e) ∙ ap float (sym (z h).0);
      two = ap second_of (sym e) ∙ ap float (sym (z h).1);
      marked = ap half_of (sym e) ∙ sym (z h).2;
    }

fifteen : (answer : Answer) → Refused 15 ≡ answer → Told answer 15 (pos 0) (pos 0) false
fifteen answer e = record { numbered = ap number_of (sym e); one = ap first_of (sym e); two = ap second_of (sym e); marked = ap half_of (sym e) }

-- ---- a float by its number
is_count : (w : Option ℤ) → whole.number_of w ≡ 0 → w ≡ Some (value_of w)
is_count (Some n) e = refl
is_count None e = absurd (omega (arith, e))

is_none : (w : Option ℤ) → whole.number_of w ≡ 15 → w ≡ None
is_none (Some n) e = absurd (omega (arith, e))
is_none None e = refl

-- ---- a door, of any conversion f whose refusals carry zeros and no half
module _ {R : Type 0} (f : ℤ → ℤ → R) (number : R → ℕ) (one two : R → ℤ) (half : R → Bool) (z : (a b : ℤ) → Zeroed number one two half (f a b)) where
  abbrev tell : R → Answer
  tell r = answer_of (number r) (one r) (two r) (half r)

  abbrev door : Point → Answer
  door p = door_of (counts_of p) (λ a b. tell (f a b))

  of_counts : (p : Point) (a b : ℤ) → whole_of p.first ≡ Some a → whole_of p.second ≡ Some b
      → Told (door p) (number (f a b)) (one (f a b)) (two (f a b)) (half (f a b))
  of_counts p a b e g =
      let through : tell (f a b) ≡ door p = after f tell (counts_of p) (tell (f a b)) (sym (both-counts _ _ a b e g)) refl refl refl refl in
      rw (← through) (told (number (f a b)) (one (f a b)) (two (f a b)) (half (f a b)) (z a b).zeros)

  tells : Tells door (λ a b. number (f a b)) (λ a b. one (f a b)) (λ a b. two (f a b)) (λ a b. half (f a b))
  tells = record {
    counts = λ p e g. of_counts p _ _ (is_count _ e) (is_count _ g);
    first_none = λ p e. fifteen (door p) (before (counts_of p) (λ a b. tell (f a b)) (sym (first_none _ _ (is_none _ e))));
    second_none = λ p e. fifteen (door p) (before (counts_of p) (λ a b. tell (f a b)) (sym (second_none _ _ (is_none _ e))));
  }

-- a door that tells what one conversion answers tells what another does that always answers the same
pub tells_as : {R : Type 0} (door : Point → Answer) (f g : ℤ → ℤ → R) (number : R → ℕ) (one two : R → ℤ) (half : R → Bool) → ((a b : ℤ) → f a b ≡ g a b)
    → Tells door (λ a b. number (f a b)) (λ a b. one (f a b)) (λ a b. two (f a b)) (λ a b. half (f a b))
    → Tells door (λ a b. number (g a b)) (λ a b. one (g a b)) (λ a b. two (g a b)) (λ a b. half (g a b))
tells_as door f g number one two half same t =
    record { counts = λ p e h. rw (← same (value_of (whole_of p.first)) (value_of (whole_of p.second))) (t.counts p e h); first_none = t.first_none; second_none = t.second_none }

module _ (s : List ℕ) where
  pub plane-tells : Tells (to_plane s) (λ a b. (geographic_to_plane s a b).number) (λ a b. (geographic_to_plane s a b).x) (λ a b. (geographic_to_plane s a b).y) (λ a b. (geographic_to_plane s a b).half)
  plane-tells = tells (geographic_to_plane s) (λ r. r.number) (λ r. r.x) (λ r. r.y) (λ r. r.half) (plane_zeros s)

  pub geographic-tells : Tells (to_geographic s) (λ a b. (plane_to_geographic s a b).number) (λ a b. (plane_to_geographic s a b).latitude) (λ a b. (plane_to_geographic s a b).longitude)
      (λ a b. (plane_to_geographic s a b).half)
  geographic-tells = tells (plane_to_geographic s) (λ r. r.number) (λ r. r.latitude) (λ r. r.longitude) (λ r. r.half) (geographic_zeros s)

  pub grid-tells : Tells (to_grid s) (λ a b. (convergence_and_scale s a b).number) (λ a b. (convergence_and_scale s a b).convergence) (λ a b. (convergence_and_scale s a b).scale)
      (λ a b. (convergence_and_scale s a b).half)
  grid-tells = tells (convergence_and_scale s) (λ r. r.number) (λ r. r.convergence) (λ r. r.scale) (λ r. r.half) (grid_zeros s)
