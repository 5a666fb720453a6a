-- `touched::plane_touched` meets its contract. Assumes nothing.
use mathlib.Core.Path.{ap, ◌∙◌}
use Rattle.refusals.proofs.Numbers.{number-some}
use Rattle.refusals.proofs.Handed.{handed}
use Rattle.contents.specs.Contents.{number_of}
use Rattle.touched.specs.Touched.{touch_told}
use Rattle.touched.proofs.Answered.{plane-refused}
use Rattle.touched.proofs.plane_touched.Goals as goal

pub returns-in_err-pass : goal.returns-in_err-pass
returns-in_err-pass c = handed touch_told _ _ c.from_residual.ensures.1 ∙ plane-refused _ _ _ _ _ (ap number_of c.in_err-pass.ensures) (number-some _)
