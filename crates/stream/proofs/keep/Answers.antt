use borrow.Author.Rules.{rules}
use Rattle.stream.proofs.Moving.{moved, kept-length, kept_memory}
use Rattle.stream.proofs.keep.Goals as goal

pub returns : goal.returns
returns c =
    let old = c.args.buffer.now in
    let l = c.min-n.ensures in
    (kept-length old _ _ _ c.requires.0 c.requires.1 l, kept_memory old _ _ _ c.requires.0 c.requires.1 l _ (moved old _ _ _ c.copy_within.ensures.after), search rules)
