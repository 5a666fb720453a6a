-- `contents::ends_sheet` meets its contract. Assumes nothing.
use mathlib.Core.Path.{refl}
use Rattle.contents.proofs.Passing.{last-known, end_is}
use borrow.Author.Rules.{rules}
use Rattle.contents.proofs.ends_sheet.Goals as goal

pub returns : goal.returns
returns c =
    end_is _ _ c.args.c.there.small c.requires _ _ _ c.start_at.ensures.0 c.span_at.ensures.0 refl

pub span_at-requires : goal.span_at-requires
span_at-requires c = let there = c.args.c.there in search (last-known, rules)
