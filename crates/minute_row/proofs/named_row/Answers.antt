-- `minute_row::named_row` meets its contract. Assumes nothing.
use mathlib.Core.Path.{◌≡◌, sym, ap, ◌∙◌}
use Prim.Native.Nat.{◌-◌}
use lib.Dec.{eqb}
use lib.IntN.{pos}
use lib.Signed.{le_z}
use mir.Syntax.{w32, w64}
use mir.Val.{SFits, to_z, of_z}
use mir.Facts.{to_z-of_z}
use Rattle.rounding.proofs.Sizes.{Size}
use Rattle.refusals.specs.Tests.{same_as}
use Rattle.refusals.proofs.Ranges.{same_bits}
use Rattle.minute_row.specs.MinuteRow.{from_first_minute}
use Rattle.minute_row.proofs.Place.{none_below, none_above, by_minute, place_size}
use borrow.Author.Rules.{sfits_of, rules}
use Rattle.minute_row.proofs.named_row.Goals as goal
use Rattle.minute_row.proofs.named_row.Goals.{After-from_first_minute-place, Else-n-place, Else-place-lt0}

-- how far the minute stands from the first row's
place : (c : After-from_first_minute-place) → to_z w64 (of_z w64 c.from_first_minute-place.result) ≡ from_first_minute c.args.b.now c.args.minute
place c =
    let same : to_z w32 (of_z w32 c.args.minute) ≡ c.args.minute = search rules in
    to_z-of_z {w = w64} (sfits_of {w = w64} c.from_first_minute-place.type_inv) ∙ c.from_first_minute-place.ensures ∙ ap (from_first_minute _) same

-- the test against the rows, as a count
above : (c : Else-place-lt0) → le_z (pos c.args.n) (to_z w64 (of_z w64 c.from_first_minute-place.result)) ≡ le_z (to_z w64 c.args.n) (to_z w64 (of_z w64 c.from_first_minute-place.result))
above c =
    let s : SFits w64 (pos c.args.n) = search rules in
    ap (λ z. le_z z (to_z w64 (of_z w64 c.from_first_minute-place.result))) (sym (to_z-of_z s))

inside : (c : Else-n-place) → Size 0 (to_z w64 (of_z w64 c.from_first_minute-place.result)) (c.args.n - 1)
inside c = place_size _ _ _ _ (place (goal.at.Else-n-place c).After-from_first_minute-place) c.requires.0 c.if-place-lt0.false (above (goal.at.Else-n-place c).Else-place-lt0 ∙ c.if-n-place.false)

pub returns-then-place-lt0 : goal.returns-then-place-lt0
returns-then-place-lt0 c = none_below _ _ _ _ (place (goal.at.returns-then-place-lt0 c).After-from_first_minute-place) c.requires.0 c.if-place-lt0.true

pub returns-then-n-place : goal.returns-then-n-place
returns-then-n-place c = none_above _ _ _ _ (place (goal.at.returns-then-n-place c).After-from_first_minute-place) c.requires.0 (above (goal.at.returns-then-n-place c).Else-place-lt0 ∙ c.if-n-place.true)

pub returns : goal.returns
returns c =
    let same : eqb (of_z w32 c.word-own.result) (of_z w32 c.args.minute) ≡ same_as c.word-own.result c.args.minute = search same_bits in
    rw c.then_some.ensures
    (by_minute _ _ _ _ (place (goal.at.returns c).After-from_first_minute-place) c.requires.0 c.if-place-lt0.false (above (goal.at.returns c).Else-place-lt0 ∙ c.if-n-place.false)
    c.word-own.result _ c.word-own.ensures same)
