-- `entries::first_body` meets its contract. Assumes nothing.
use borrow.Author.Rules.{rules}
use Rattle.entries.proofs.Forms.{words_fit, first_fits, first_is}
use Rattle.entries.proofs.first_body.Goals as goal

pub overflow_mul-result : goal.overflow_mul-result
overflow_mul-result c = search words_fit

pub overflow_add-result : goal.overflow_add-result
overflow_add-result c = search first_fits

pub returns : goal.returns
returns c = search (first_is, rules)
