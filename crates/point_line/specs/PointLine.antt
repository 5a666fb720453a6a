-- What a line of the "Points program" asks. A line is its bytes without the line feed.
use Rattle.std.specs.Prelude.{ℕ, Bool, cond, List, eqb, ℤ, get_or, Option, Some, None, is_some, option_map, option_and_then}
use Rattle.fields.specs.Fields.{field_at, last_at}
use Rattle.point_line.specs.declared.Form.{Form}
use Rattle.point_line.specs.declared.Form.TheVariants.{Forward, Inverse, Convergence}
use Rattle.point_line.specs.declared.Line.{Line}

-- "`G latitude longitude`, `P x y` or `S x y`": the form that a letter names.
unfoldable pub form_of : ℕ → Option Form
form_of b = cond (eqb b 71) (Some Forward) (cond (eqb b 80) (Some Inverse) (cond (eqb b 83) (Some Convergence) None))

-- What holds for a form: of G, of P, of S.
abbrev pub by_form : {A : Type 0} → Form → A → A → A → A
by_form Forward g p s = g
by_form Inverse g p s = p
by_form Convergence g p s = s

-- A byte is a form's letter.
abbrev pub is_form : ℕ → Bool
is_form b = is_some (form_of b)

abbrev pub asks : Form → ℤ → ℤ → Line
asks form first second = record { form = form; first = first; second = second }

-- The two numbers: the first stands behind the letter and a blank, the second where the first and its blank end.
unfoldable pub numbers_of : List ℕ → Form → Option Line
numbers_of line form = option_and_then (λ f. option_map (λ s. asks form f.value s.value) (last_at line f.next)) (field_at line 2)

-- A letter, "one blank between", a number, a blank, a number, and the line's end; else it is "a program line of no known form".
unfoldable pub line_of : List ℕ → Option Line
line_of line = option_and_then (λ form. cond (eqb (get_or line 1 0) 32) (numbers_of line form) None) (form_of (get_or line 0 0))
