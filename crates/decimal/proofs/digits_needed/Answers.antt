-- `decimal::digits_needed` meets its contract. Assumes nothing.
use Rattle.decimal.proofs.Spelling.{one_place, six_places}
use Rattle.decimal.proofs.digits_needed.Goals as goal

pub digits_needed_from-requires : goal.digits_needed_from-requires
digits_needed_from-requires c = one_place _

pub digits_needed_from-requires-2 : goal.digits_needed_from-requires-2
digits_needed_from-requires-2 c = six_places _ c.if-v-lt100000.false
