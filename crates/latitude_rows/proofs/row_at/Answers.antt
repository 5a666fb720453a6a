-- `latitude_rows::row_at` meets its contract. Assumes nothing.
use mathlib.Core.Path.{◌≡◌, ◌∙◌}
use mir.Syntax.{w32}
use mir.Val.{to_z, of_z}
use borrow.Author.Rules.{rules}
use Rattle.latitude_rows.proofs.row_at.Goals as goal

pub returns : goal.returns
returns c =
    let minute : to_z w32 (of_z w32 c.word.result) ≡ c.word.result = search rules in
    rw (minute ∙ c.word.ensures, c.figures_at.ensures, c.differences_at.ensures)
