-- `reached::first_minute` meets its contract. Assumes nothing.
use mathlib.Core.Path.{◌≡◌, ap, ◌∙◌}
use Prim.Native.Nat.{ℕ, ◌/◌}
use native.Mathlib.Omega.{arith}
use lib.IntN.{nat_abs}
use mir.Syntax.{w64}
use mir.Val.{of_z}
use Rattle.entries.specs.Layout.{one_minute}
use Rattle.rounding.proofs.Holds.{Holds, size_below}
use Rattle.tables.specs.Figures.{first_latitude_of}
use Rattle.tables.proofs.Origins.{first_held}
use Rattle.reached.proofs.Asking.{minutes_most}
use Rattle.reached.proofs.first_minute.Goals as goal
use Rattle.reached.proofs.first_minute.Goals.{Start}

first : (c : Start) → Holds w64 (of_z w64 c.args.sheet.origin.first_latitude) (first_latitude_of c.args.sheet.bytes.now) 324_000_000
first c = first_held _ c.args.sheet.known.passes _ c.args.sheet.measured

pub size-requires : goal.size-requires
size-requires c = size_below (first (goal.at.size-requires c).Start) tt

pub returns : goal.returns
returns c =
    let held = first (goal.at.returns c).Start in
    let size : c.size.result ≡ nat_abs (first_latitude_of c.args.sheet.bytes.now) = c.size.ensures ∙ ap nat_abs held.is in
    (ap (λ (x : ℕ). x / one_minute) size, minutes_most c.size.result 5_400 (omega (arith, size, held.size)))
