-- `inverse::inverse` meets its contract. Assumes nothing.
use mathlib.Core.Path.{◌≡◌, ap, ◌∙◌}
use lib.IntN.{nat_abs}
use mir.Syntax.{w32, w64}
use mir.Val.{to_z, of_z}
use Rattle.refusals.proofs.Ladders.{stop, go, kept}
use Rattle.extent.specs.Extent.{x_prime, easting_known, northing_known}
use Rattle.extent.proofs.Reach.{easting-within}
use Rattle.inverse.specs.Inverse.{reduced_northing, reduced_half, inverse_of}
use Rattle.rounding.proofs.Bits.{bits_is, bits_below}
use borrow.Author.Rules.{rules}
use Rattle.inverse.proofs.inverse.Goals as goal
use Rattle.inverse.proofs.inverse.Goals.{After-easting_known, After-northing_known, After-reduced_northing-reduced, After-x_prime-xp, Start}

-- x', and the tests, of the point itself
x_is : (c : Start) → to_z w32 (of_z w32 c.args.x) ≡ c.args.x
x_is c = search rules

y_is : (c : Start) → to_z w32 (of_z w32 c.args.y) ≡ c.args.y
y_is c = search rules

xp_is : (c : After-x_prime-xp) → to_z w64 (of_z w64 c.x_prime-xp.result) ≡ x_prime c.args.sheet.bytes.now c.args.x
xp_is c = bits_is c.x_prime-xp.type_inv ∙ c.x_prime-xp.ensures.0 ∙ ap (x_prime _) (x_is (goal.at.After-x_prime-xp c).Start)

easting-known_is : (c : After-easting_known) → let args = c.args in c.easting_known.result ≡ easting_known args.sheet.bytes.now (x_prime args.sheet.bytes.now args.x)
easting-known_is c = c.easting_known.ensures ∙ ap (easting_known _) (xp_is (goal.at.After-easting_known c).After-x_prime-xp)

northing_is : (c : After-northing_known) → let args = c.args in c.northing_known.result ≡ northing_known args.sheet.bytes.now args.y
northing_is c = c.northing_known.ensures ∙ ap (northing_known _) (y_is (goal.at.After-northing_known c).Start)

module _ (c : After-reduced_northing-reduced) where
  reduced_bits : to_z w64 (of_z w64 c.reduced_northing-reduced.result.value) ≡ c.reduced_northing-reduced.result.value
  reduced_bits = search rules

  x_size : let args = c.args in c.size.result ≡ nat_abs (x_prime args.sheet.bytes.now args.x)
  x_size = c.size.ensures ∙ ap nat_abs (xp_is (goal.at.After-reduced_northing-reduced c).After-x_prime-xp)

  reduced_is : let args = c.args in to_z w64 (of_z w64 c.reduced_northing-reduced.result.value) ≡ reduced_northing args.sheet.bytes.now (nat_abs (x_prime args.sheet.bytes.now args.x)) args.y
  reduced_is = reduced_bits ∙ c.reduced_northing-reduced.ensures.0 ∙ rw (x_size, y_is (goal.at.After-reduced_northing-reduced c).Start)

  half_is : let args = c.args in c.reduced_northing-reduced.result.half ≡ reduced_half args.sheet.bytes.now (nat_abs (x_prime args.sheet.bytes.now args.x)) args.y
  half_is = c.reduced_northing-reduced.ensures.2 ∙ rw (x_size, y_is (goal.at.After-reduced_northing-reduced c).Start)

pub returns-then-not-easting_known : goal.returns-then-not-easting_known
unfolding inverse_of
returns-then-not-easting_known c = stop _ _ _ _ (easting-known_is (goal.at.returns-then-not-easting_known c).After-easting_known) c.if-not-easting_known.true

pub returns-then-not-northing_known : goal.returns-then-not-northing_known
unfolding inverse_of
returns-then-not-northing_known c = go _ _ _ _ _ (easting-known_is (goal.at.returns-then-not-northing_known c).After-easting_known) c.if-not-easting_known.false (stop _ _ _ _ (northing_is (goal.at.returns-then-not-northing_known c).After-northing_known) c.if-not-northing_known.true)

pub returns : goal.returns
unfolding inverse_of
returns c =
    go _ _ _ _ _ (easting-known_is (goal.at.returns c).After-easting_known) c.if-not-easting_known.false
    (go _ _ _ _ _ (northing_is (goal.at.returns c).After-northing_known) c.if-not-northing_known.false
    (c.from_reduced.ensures ∙ rw (xp_is (goal.at.returns c).After-x_prime-xp, reduced_is (goal.at.returns c).After-reduced_northing-reduced, half_is (goal.at.returns c).After-reduced_northing-reduced)))

pub size-requires : goal.size-requires
size-requires c = let xp = c.x_prime-xp in bits_below xp.result xp.type_inv xp.ensures.1 tt

pub reduced_northing-reduced-requires : goal.reduced_northing-reduced-requires
reduced_northing-reduced-requires c =
    let easting = kept _ _ c.easting_known.ensures c.if-not-easting_known.false in
    (rw c.size.ensures (easting-within _ _ easting), kept _ _ c.northing_known.ensures c.if-not-northing_known.false)

pub from_reduced-requires : goal.from_reduced-requires
from_reduced-requires c =
    let easting = kept _ _ c.easting_known.ensures c.if-not-easting_known.false in
    (easting, rw (reduced_bits (goal.at.from_reduced-requires c).After-reduced_northing-reduced) c.reduced_northing-reduced.ensures.1)
