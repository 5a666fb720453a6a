-- `lines::put_values` meets its contract. Assumes nothing.
use mir.Facts.{to_z-of_z}
use mir.Syntax.{w32}
use Rattle.lines.proofs.Answers.{unknown_text, known_text}
use borrow.Author.Rules.{sfits_of}
use Rattle.lines.proofs.put_values.Goals as goal

pub returns-then-number-eq-UNKNOWN : goal.returns-then-number-eq-UNKNOWN
returns-then-number-eq-UNKNOWN c =
    (c.put_unknown.ensures.0, rw (unknown_text c.args.v c.if-number-eq-UNKNOWN.true) at c.put_unknown.ensures.1)

pub returns : goal.returns
returns c =
    let a = to_z-of_z {w = w32} {z = c.args.v.first} (sfits_of c.struct_told-1.given.1.0.1) in
    let b = to_z-of_z {w = w32} {z = c.args.v.second} (sfits_of c.struct_told-2-1.given.1.1.0.1) in
    (c.put_answer.ensures.0, rw (known_text c.args.v c.if-number-eq-UNKNOWN.false) at (rw (a, b) at c.put_answer.ensures.1))
