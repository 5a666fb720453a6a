-- `entries::Contents::word` meets its contract. Assumes nothing.
use Rattle.entries.proofs.Forms.{entry_fits, next_fits, word_fits, word-within}
use Rattle.entries.proofs.Contents.word.Goals as goal

pub overflow_mul-self : goal.overflow_mul-self
overflow_mul-self c = let there = c.args.self.there in search entry_fits

pub overflow_add-self : goal.overflow_add-self
overflow_add-self c = let there = c.args.self.there in search next_fits

pub overflow_add-self-2 : goal.overflow_add-self-2
overflow_add-self-2 c = let there = c.args.self.there in search word_fits

pub count_at-requires : goal.count_at-requires
count_at-requires c = let there = c.args.self.there in search word-within
