-- `tables::row_among` meets its contract. Assumes nothing.
use mathlib.Core.Path.{◌≡◌}
use Rattle.entries.specs.Layout.{latitude}
use Rattle.entries.specs.Entries.{body_of}
use Rattle.tables.proofs.Northings.{lent_long, lent_sizes, lent_rising, lent_first, bits_small, lent_row}
use Rattle.tables.proofs.Answers.{body_in}
use borrow.Author.Rules.{rules}
use Rattle.tables.proofs.row_among.Goals as goal
use Rattle.tables.proofs.row_among.Goals.{After-body-b}

-- the body that is lent
is : (c : After-body-b) → c.body-b.result.now ≡ body_of c.args.sheet.bytes.now latitude
is c = body_in c.table.ensures c.body-b.ensures.0

pub last_not_above-requires : goal.last_not_above-requires
last_not_above-requires c =
    let known = c.args.sheet.known in
    let body = is c in
    search (lent_long, lent_sizes, lent_rising, lent_first, bits_small, rules)

pub returns : goal.returns
returns c =
    let known = c.args.sheet.known in
    let body = is (goal.at.returns c).After-body-b in
    search (lent_row, rules)
