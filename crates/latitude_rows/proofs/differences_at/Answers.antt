-- `latitude_rows::differences_at` meets its contract. Assumes nothing.
use mathlib.Core.Path.{◌≡◌, ◌∙◌}
use mir.Syntax.{w32}
use mir.Val.{to_z, of_z}
use Rattle.latitude_rows.specs.Rows.{differences_at}
use borrow.Author.Rules.{rules}
use Rattle.latitude_rows.proofs.differences_at.Goals as goal

pub returns : goal.returns
unfolding differences_at
returns c =
    let y : to_z w32 (of_z w32 c.word.result) ≡ c.word.result = search rules in
    let h : to_z w32 (of_z w32 c.word-2.result) ≡ c.word-2.result = search rules in
    let v : to_z w32 (of_z w32 c.word-3.result) ≡ c.word-3.result = search rules in
    rw (y ∙ c.word.ensures, h ∙ c.word-2.ensures, v ∙ c.word-3.ensures)
