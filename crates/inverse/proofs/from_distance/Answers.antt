-- `inverse::from_distance` meets its contract. Assumes nothing.
use mathlib.Core.Path.{◌≡◌, ap, ◌∙◌}
use mathlib.Core.Bool.{true}
use native.Mathlib.Nat.{le_trans}
use lib.Dec.{lit≤}
use lib.IntN.{pos, nat_abs}
use mir.Syntax.{w64}
use mir.Val.{to_z, of_z}
use Rattle.rounding.proofs.Holds.{held_size}
use Rattle.refusals.proofs.Ladders.{stop, go, kept}
use Rattle.steps.specs.Steps.{approximate_l_half}
use Rattle.entries.specs.Layout.{easting, latitude}
use Rattle.entries.specs.Entries.{Within}
use Rattle.reading.specs.Tables.{offset_of}
use Rattle.tables.specs.Figures.{h_at}
use Rattle.tables.proofs.Parts.{table_within}
use Rattle.extent.specs.Extent.{size_known}
use Rattle.extent.proofs.Reach.{easting-within, easting_span, size_within}
use Rattle.extent.proofs.Points.{size_small}
use Rattle.inverse.specs.Inverse.{approximate_of, size_of, size_half, from_distance}
use Rattle.inverse.proofs.Longitudes.{x_small, approximate_halves, approximate_half_halves, size_halves, size_half_halves, l_asked}
use borrow.Author.Rules.{rules}
use Rattle.inverse.proofs.from_distance.Goals as goal
use Rattle.inverse.proofs.from_distance.Goals.{After-approximate_of-approximate, After-size-x, After-size_known, After-size_known-2, After-size_of-size, Else-not-size_known, Start}

-- x' and its size, as they were worked; the point is within the tables
module _ (c : Start) where
  xp_is : to_z w64 (of_z w64 c.args.xp) ≡ c.args.xp
  xp_is = search rules

  x_within : Within c.args.sheet.bytes.now easting (nat_abs c.args.xp)
  x_within = easting-within _ _ c.requires.0

  t_within : Within c.args.sheet.bytes.now latitude (offset_of c.args.at)
  t_within = table_within _ _ _ c.requires.1

x_is : (c : After-size-x) → c.size-x.result ≡ nat_abs c.args.xp
x_is c = c.size-x.ensures ∙ ap nat_abs (xp_is (goal.at.After-size-x c).Start)

-- approximate L
module _ (c : After-approximate_of-approximate) where
  abbrev start : Start
  start = (goal.at.After-approximate_of-approximate c).Start

  approximate_is : let args = start.args in c.approximate_of-approximate.result.value ≡ approximate_of args.sheet.bytes.now (nat_abs args.xp) (offset_of args.at)
  approximate_is = c.approximate_of-approximate.ensures.0 ∙ approximate_halves _ _ _ c.h_at.ensures.0 (x_is (goal.at.After-approximate_of-approximate c).After-size-x)

  approximate_half : let args = start.args in c.approximate_of-approximate.result.half ≡ approximate_l_half (nat_abs args.xp) (h_at args.sheet.bytes.now (offset_of args.at))
  approximate_half = c.approximate_of-approximate.ensures.2 ∙ approximate_half_halves _ _ _ c.h_at.ensures.0 (x_is (goal.at.After-approximate_of-approximate c).After-size-x)

-- its test
first_known : (c : After-size_known)
    → let args = (start (goal.at.After-size_known c).After-approximate_of-approximate).args in
    c.size_known.result ≡ size_known args.sheet.bytes.now (pos (approximate_of args.sheet.bytes.now (nat_abs args.xp) (offset_of args.at)))
first_known c =
    c.size_known.ensures ∙ ap (size_known _) ((held_size w64 c.approximate_of-approximate.ensures.1 tt).is ∙ ap pos (approximate_is (goal.at.After-size_known c).After-approximate_of-approximate))

approximate_there : (c : Else-not-size_known)
    → let args = (start (goal.at.Else-not-size_known c).After-approximate_of-approximate).args in
    size_known args.sheet.bytes.now (pos (approximate_of args.sheet.bytes.now (nat_abs args.xp) (offset_of args.at))) ≡ true
approximate_there c = kept _ _ (first_known (goal.at.Else-not-size_known c).After-size_known) c.if-not-size_known.false

-- the size of L
pub size_of-size-requires : goal.size_of-size-requires
size_of-size-requires c =
    let taken = c.taken_at.ensures in
    let from = start (goal.at.size_of-size-requires c).After-approximate_of-approximate in
    let z = from.args.sheet.known.passes in
    let x = x_is (goal.at.size_of-size-requires c).After-size-x in
    let b = c.b_at-b.ensures in (
      rw x (x_small _ z _ _ (x_within from) (t_within from)),
      taken.3,
      b.1,
      taken.1,
      taken.2,
      l_asked _ z _ _ (x_within from) (t_within from) (approximate_there (goal.at.size_of-size-requires c).Else-not-size_known) _ taken.0 x (approximate_is (goal.at.size_of-size-requires c).After-approximate_of-approximate) b.0,
    )

module _ (c : After-size_of-size) where
  abbrev worked : After-approximate_of-approximate
  worked = (goal.at.After-size_of-size c).After-approximate_of-approximate

  size_bits : to_z w64 (of_z w64 c.size_of-size.result.value) ≡ c.size_of-size.result.value
  size_bits = search rules

  size_is : let args = (start (goal.at.After-size_of-size c).After-approximate_of-approximate).args in c.size_of-size.result.value ≡ size_of args.sheet.bytes.now (nat_abs args.xp) (offset_of args.at)
  size_is = c.size_of-size.ensures.0 ∙ size_halves _ _ _ _ c.taken_at.ensures.0 (x_is (goal.at.After-size_of-size c).After-size-x) (approximate_is (goal.at.After-size_of-size c).After-approximate_of-approximate) c.b_at-b.result c.b_at-b.ensures.0

  half_is : let args = (start (goal.at.After-size_of-size c).After-approximate_of-approximate).args in c.size_of-size.result.half ≡ size_half args.sheet.bytes.now (nat_abs args.xp) (offset_of args.at)
  half_is =
      c.size_of-size.ensures.1
      ∙ size_half_halves _ _ _ _ c.taken_at.ensures.0 (x_is (goal.at.After-size_of-size c).After-size-x) (approximate_is (goal.at.After-size_of-size c).After-approximate_of-approximate) c.b_at-b.result c.b_at-b.ensures.0 (approximate_half (goal.at.After-size_of-size c).After-approximate_of-approximate) c.b_at-b.ensures.2

second_known : (c : After-size_known-2)
    → let args = (start (worked (goal.at.After-size_known-2 c).After-size_of-size)).args in c.size_known-2.result ≡ size_known args.sheet.bytes.now (size_of args.sheet.bytes.now (nat_abs args.xp) (offset_of args.at))
second_known c = c.size_known-2.ensures ∙ ap (size_known _) (size_bits (goal.at.After-size_known-2 c).After-size_of-size ∙ size_is (goal.at.After-size_known-2 c).After-size_of-size)

pub returns-then-not-size_known : goal.returns-then-not-size_known
unfolding from_distance
returns-then-not-size_known c = stop _ _ _ _ (first_known (goal.at.returns-then-not-size_known c).After-size_known) c.if-not-size_known.true

pub returns-then-not-size_known-2 : goal.returns-then-not-size_known-2
unfolding from_distance
returns-then-not-size_known-2 c =
    go _ _ _ _ _ (first_known (goal.at.returns-then-not-size_known-2 c).After-size_known) c.if-not-size_known.false (stop _ _ _ _ (second_known (goal.at.returns-then-not-size_known-2 c).After-size_known-2) c.if-not-size_known-2.true)

pub returns : goal.returns
unfolding from_distance
returns c =
    go _ _ _ _ _ (first_known (goal.at.returns c).After-size_known) c.if-not-size_known.false
    (go _ _ _ _ _ (second_known (goal.at.returns c).After-size_known-2) c.if-not-size_known-2.false
    (c.geographic_at.ensures ∙ rw (xp_is (start (worked (goal.at.returns c).After-size_of-size)))))

pub geographic_at-requires : goal.geographic_at-requires
geographic_at-requires c =
    let from = start (worked (goal.at.geographic_at-requires c).After-size_of-size) in
    let known = rw (size_bits (goal.at.geographic_at-requires c).After-size_of-size) at (kept _ _ c.size_known-2.ensures c.if-not-size_known-2.false) in
    (from.requires.1, rw (xp_is from) (size_is (goal.at.geographic_at-requires c).After-size_of-size), known, rw (xp_is from) (half_is (goal.at.geographic_at-requires c).After-size_of-size))

pub size-x-requires : goal.size-x-requires
size-x-requires c = size_small (xp_is (goal.at.size-x-requires c).Start) (le_trans (x_within (goal.at.size-x-requires c).Start).most (le_trans (easting_span _ c.args.sheet.known.passes) (lit≤ tt)))

pub approximate_of-approximate-requires : goal.approximate_of-approximate-requires
approximate_of-approximate-requires c = (rw (x_is (goal.at.approximate_of-approximate-requires c).After-size-x) (x_small _ c.args.sheet.known.passes _ _ (x_within (goal.at.approximate_of-approximate-requires c).Start) (t_within (goal.at.approximate_of-approximate-requires c).Start)), c.h_at.ensures.1, c.h_at.ensures.2)

pub b_at-b-requires : goal.b_at-b-requires
b_at-b-requires c = rw (approximate_is (goal.at.b_at-b-requires c).After-approximate_of-approximate) (size_within _ _ (approximate_there c))
