-- A line's answer is its form's conversion, and its text. Assumes nothing.
use mathlib.Core.Path.{◌≡◌, refl}
use mathlib.Core.List.{List}
use Prim.Native.Nat.{ℕ}
use lib.IntN.{ℤ}
use Rattle.std.proofs.Common.{Option, Some, None}
use Rattle.refusals.proofs.Ladders.{is, is_not}
use Rattle.sheet_check.specs.Check.{check_of}
use Rattle.forward.specs.Forward.{PlaneTold, forward_of}
use Rattle.inverse.specs.Inverse.{GeographicTold, inverse_of}
use Rattle.convergence.specs.Grid.{GridTold, grid_of}
use Rattle.convert.proofs.Checked.{forward-passes, inverse-passes, grid-passes}
use Rattle.point_line.specs.declared.Form.TheVariants.{Forward, Inverse, Convergence}
use Rattle.point_line.specs.declared.Line.{Line}
use Rattle.point_line.specs.PointLine.{line_of}
use Rattle.lines.specs.declared.Values.{Values}
use Rattle.lines.specs.Lines.{answer_line, unknown_line, no_values, plane_values, geographic_values, grid_values, values_of, text_of, answer_text}

-- ---- what a line is answered
module _ (s : List ℕ) (l : Line) (z : (check_of s).number ≡ 0) (a b : ℤ) (x : a ≡ l.first) (y : b ≡ l.second) where
  pub forward-values : (r : PlaneTold) → l.form ≡ Forward → r ≡ forward_of s a b → plane_values r ≡ values_of s (Some l)
  unfolding values_of
  forward-values r f h = rw (f, forward-passes s a b r z h, x, y)

  pub inverse-values : (r : GeographicTold) → l.form ≡ Inverse → r ≡ inverse_of s a b → geographic_values r ≡ values_of s (Some l)
  unfolding values_of
  inverse-values r f h = rw (f, inverse-passes s a b r z h, x, y)

  pub grid-values : (r : GridTold) → l.form ≡ Convergence → r ≡ grid_of s a b → grid_values r ≡ values_of s (Some l)
  unfolding values_of
  grid-values r f h = rw (f, grid-passes s a b r z h, x, y)

-- ---- what a line of no known form is answered
pub none-known : (s : List ℕ) (l : Option Line) → ((x : Line) → l ≡ Some x → ⊥) → no_values ≡ values_of s l
unfolding values_of
none-known s None h = refl
none-known s (Some x) h = elim (h x refl) [ ]

-- ---- as text
module _ (v : Values) where
  pub unknown_text : v.number ≡ 18 → unknown_line ≡ text_of v
  unfolding text_of
  unknown_text e = is v.number 18 _ _ _ e refl

  pub known_text : (v.number ≡ 18 → ⊥) → answer_line v.number v.first v.second ≡ text_of v
  unfolding text_of
  known_text n = is_not v.number 18 _ _ _ n refl

pub text_of_lem : (s line : List ℕ) (l : Option Line) (v : Values) → l ≡ line_of line → v ≡ values_of s l → text_of v ≡ answer_text s line
unfolding answer_text
text_of_lem s line l v e f = rw (f, e)
