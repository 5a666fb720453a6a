-- `tables::pass` meets its contract. Assumes nothing.
use mathlib.Core.Path.{sym, ap}
use Rattle.contents.proofs.OfFault.{matched_err}
use Rattle.contents.specs.Contents.{number_of}
use Rattle.sheet_check.proofs.Known.{sheet_long}
use Rattle.tables.proofs.pass.Goals as goal

pub returns-in_err-check : goal.returns-in_err-check
returns-in_err-check c = matched_err _ _ _ _ c.from_residual.ensures.1 c.in_err-check.ensures

pub places_of-requires : goal.places_of-requires
places_of-requires c = sheet_long _ (ap number_of (sym c.in_ok-check.ensures))

pub known-requires : goal.known-requires
known-requires c = record { passes = ap number_of (sym c.in_ok-check.ensures); places = c.places_of.ensures }
