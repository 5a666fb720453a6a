-- `sheet_check::check` meets its contract. Assumes nothing.
use mathlib.Core.Path.{◌∙◌, refl}
use Prim.Native.Nat.{◌≤◌}
use native.Mathlib.Omega.{arith}
use borrow.Author.Rules.{rules}
use Rattle.refusals.proofs.Numbers.{number-some}
use Rattle.refusals.proofs.Handed.{handed}
use Rattle.entries.specs.Layout.{last_kind}
use Rattle.contents.specs.Contents.{verdict_told}
use Rattle.sheet_check.proofs.ByKind.{contents_refuse, contents_pass, first_kind, kind_refused, kind_passed, kinds_end}
use Rattle.sheet_check.proofs.check.Goals as goal

pub returns-in-Err : goal.returns-in-Err
returns-in-Err c = kind_refused _ _ c.loop-kind.invariant.3 _ c.in-Err.ensures (omega (arith, c.loop-kind.invariant.1)) (number-some _)

pub returns : goal.returns
returns c = search kinds_end

pub returns-in_err-contents : goal.returns-in_err-contents
returns-in_err-contents c = handed verdict_told _ _ c.from_residual.ensures.1 ∙ contents_refuse _ _ c.in_err-contents.ensures (number-some _)

pub loop-kind-init : goal.loop-kind-init
loop-kind-init c = (omega arith, omega arith, contents_pass _ _ c.in_ok-contents.ensures refl, first_kind _ _ c.in_ok-contents.ensures refl)

pub loop-kind-preserved : goal.loop-kind-preserved
loop-kind-preserved c =
    let most : c.loop-kind.kind ≤ last_kind = omega arith in
    (omega arith, omega arith, c.loop-kind.invariant.2, kind_passed _ _ c.loop-kind.invariant.3 _ c.in_default.ensures most refl)
