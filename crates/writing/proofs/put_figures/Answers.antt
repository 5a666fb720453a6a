-- `writing::put_figures` meets its contract. Assumes nothing.
use mathlib.Core.Path.{◌≡◌}
use mir.Syntax.{w32}
use mir.Val.{to_z, of_z}
use Rattle.writing.proofs.WordByWord.{four_put}
use borrow.Author.Rules.{rules}
use Rattle.writing.proofs.put_figures.Goals as goal
use Rattle.writing.proofs.put_figures.Goals.{After-put_word-4}

-- f's last figure, as its word is put
a_read : (c : After-put_word-4) → to_z w32 (of_z w32 c.args.f.a) ≡ c.args.f.a
a_read c = search rules

pub returns : goal.returns
returns c =
    let w₄ = (goal.at.returns c).After-put_word-4 in
    let a = c.args in
    let y0 : to_z w32 (of_z w32 a.f.y0) ≡ a.f.y0 = search rules in
    let h : to_z w32 (of_z w32 a.f.h) ≡ a.f.h = search rules in
    let v : to_z w32 (of_z w32 a.f.v) ≡ a.f.v = search rules in
    four_put a.b.now a.i _ _ _ _ _ _ a.f _ _ y0 h v (a_read w₄) c.put_word.ensures c.put_word-2.ensures c.put_word-3.ensures w₄.put_word-4.ensures
