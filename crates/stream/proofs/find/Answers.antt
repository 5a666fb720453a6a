use Rattle.std.proofs.Common.{rules, ◌≡◌, ◌+◌, ◌-◌, ◌≤◌, ap, ◌∙◌, length, take, drop, length-take, length-drop, arith}
use Rattle.std.specs.Option.{unwrap_or}
use Rattle.std.proofs.Math.Seq.{slice, length-slice}
use Rattle.stream.specs.Search.{index_of}
use Rattle.stream.proofs.Finding.{index_most, position_is}
use Rattle.stream.proofs.Moving.{part_is}
use Rattle.stream.proofs.find.Goals as goal
use Rattle.stream.proofs.find.Goals.{After-unwrap_or}

found : (c : After-unwrap_or) → c.unwrap_or.result ≡ index_of c.args.byte (slice c.args.from c.args.to c.args.text.now)
found c =
    let a = c.args in
    let long : a.to - a.from ≡ length (take (a.to - a.from) (drop a.from a.text.now)) = simp (length-take, length-drop) (omega arith) in
    c.unwrap_or.ensures
    ∙ ap (λ o. unwrap_or o (a.to - a.from)) c.first.ensures
    ∙ position_is a.byte (take (a.to - a.from) (drop a.from a.text.now)) (a.to - a.from) long
    ∙ ap (index_of a.byte) (part_is a.from a.to a.text.now c.requires.0)

within : (c : After-unwrap_or) → c.args.from + c.unwrap_or.result ≤ c.args.to
within c =
    let a = c.args in
    omega (arith, found c, index_most a.byte (slice a.from a.to a.text.now), length-slice a.from a.to a.text.now c.requires.1)

pub overflow_add-result : goal.overflow_add-result
overflow_add-result c = let h = within c in search rules

pub returns : goal.returns
returns c = (ap (λ n. c.args.from + n) (found c), within c)
