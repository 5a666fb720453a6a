-- `compared::compare_line` meets its contract. Assumes nothing.
use mathlib.Core.Path.{ap, ◌∙◌}
use mathlib.Core.Bool.{not}
use Rattle.compared.proofs.Comparing.{eq_values, changes_is, text_is}
use Rattle.compared.proofs.compare_line.Goals as goal

pub returns : goal.returns
returns c =
    let l = c.line_of-l.ensures in
    let v = c.values_of-v.ensures in
    let w = c.values_of-w.ensures in
    let differs = c.ne-changed.ensures ∙ ap not (eq_values c.values_of-v.result c.values_of-w.result) in
    let text = text_is _ _ _ _ _ v w _ differs c.args.n in
    record {
      point = rw (← l) c.is_some.ensures;
      changed = rw (← l) (changes_is _ _ _ _ _ v w _ differs);
      reached = rw (← l) c.is_reached.ensures;
      text = (c.put_where-next.ensures.0, rw (← l) (rw text at c.put_where-next.ensures.1));
    }
