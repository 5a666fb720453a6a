-- `contents::is_sized` meets its contract. Assumes nothing.
use Rattle.contents.specs.Contents.{sized}
use Rattle.entries.proofs.Forms.{of_sheet}
use Rattle.contents.proofs.Limits.{too_short}
use Rattle.contents.proofs.is_sized.Goals as goal

pub returns-then-n-lt4 : goal.returns-then-n-lt4
returns-then-n-lt4 c = search too_short

pub first_body-least-requires : goal.first_body-least-requires
first_body-least-requires c = search of_sheet

pub returns : goal.returns
unfolding sized
returns c = cc
