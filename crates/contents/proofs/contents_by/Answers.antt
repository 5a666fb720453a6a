-- `contents::contents_by` meets its contract. Assumes nothing.
use mathlib.Core.Path.{refl}
use native.Mathlib.Omega.{arith}
use Rattle.contents.specs.Contents.{contents_by}
use Rattle.refusals.proofs.Numbers.{number-some}
use Rattle.refusals.proofs.Ladders.{stop, go}
use Rattle.contents.proofs.OfFault.{refused_in, passed_in, number-none, entry_place}
use Rattle.contents.proofs.contents_by.Goals as goal

pub overflow_add-result : goal.overflow_add-result
overflow_add-result c = let small = entry_place _ _ _ c.args.c.there.small c.in-Err.ensures in omega (arith, small)

pub returns-in-Err : goal.returns-in-Err
unfolding contents_by
returns-in-Err c = refused_in _ _ _ c.in-Err.ensures (number-some _)

pub ends_sheet-requires : goal.ends_sheet-requires
ends_sheet-requires c = number-none c.in_default.ensures refl

pub returns-then-not-ends_sheet : goal.returns-then-not-ends_sheet
unfolding contents_by
returns-then-not-ends_sheet c = passed_in _ _ _ c.in_default.ensures _ refl (stop _ _ _ _ c.ends_sheet.ensures c.if-not-ends_sheet.true)

pub returns : goal.returns
unfolding contents_by
returns c = passed_in _ _ _ c.in_default.ensures _ refl (go _ _ _ _ _ c.ends_sheet.ensures c.if-not-ends_sheet.false refl)
