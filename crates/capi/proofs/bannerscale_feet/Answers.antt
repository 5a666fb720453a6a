-- `capi::bannerscale_feet` answers what the door does. Assumes nothing.
use mathlib.Core.Path.{◌≡◌}
use mir.Syntax.{w32}
use mir.Val.{to_z, of_z}
use borrow.Author.Rules.{rules}
use Rattle.capi.proofs.bannerscale_feet.Goals as goal

pub returns : goal.returns
returns c =
    let count : to_z w32 (of_z w32 c.args.count) ≡ c.args.count = search rules in
    rw (← count) c.feet.ensures
