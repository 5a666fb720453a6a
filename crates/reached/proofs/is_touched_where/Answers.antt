-- `reached::is_touched_where` meets its contract. Assumes nothing.
use mathlib.Core.Path.{◌≡◌, ap, ◌∙◌}
use mir.Syntax.{w32}
use mir.Val.{to_z, of_z}
use Rattle.reached.specs.Reached.{touches}
use Rattle.reached.proofs.Asking.{not-differing, where_differing}
use borrow.Author.Rules.{rules}
use Rattle.reached.proofs.is_touched_where.Goals as goal

pub returns-then-not-differs : goal.returns-then-not-differs
returns-then-not-differs c = not-differing c.args.differs _ c.if-not-differs.true

pub returns : goal.returns
returns c =
    let same : to_z w32 (of_z w32 c.args.minute) ≡ c.args.minute = search rules in
    where_differing c.args.differs _ _ c.if-not-differs.false (c.is_touched.ensures ∙ ap (touches _ _) same)
