-- `writing::put_differences` meets its contract. Assumes nothing.
use Rattle.writing.proofs.WordByWord.{three_put}
use borrow.Author.Rules.{rules}
use Rattle.writing.proofs.put_differences.Goals as goal

pub returns : goal.returns
returns c = search (three_put, rules)
