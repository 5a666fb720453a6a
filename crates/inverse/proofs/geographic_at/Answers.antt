-- `inverse::geographic_at` meets its contract. Assumes nothing.
use mathlib.Core.Path.{◌≡◌, refl, ◌∙◌}
use Prim.Native.Nat.{◌≤◌}
use native.Mathlib.Nat.{le_trans, lt_of_le_of_lt}
use native.Mathlib.Omega.{arith}
use lib.Dec.{lit<}
use lib.IntN.{pos, nat_abs}
use Rattle.rounding.specs.Ranges.{most_s}
use mir.Syntax.{w64, w32}
use mir.Val.{to_z, of_z}
use Rattle.rounding.specs.Nearest.{with_sign}
use Rattle.rounding.proofs.Sizes.{size_with_sign}
use Rattle.rounding.proofs.Holds.{Holds, held_size, sum, sum_fits, difference, difference_fits, cast, cast_fits}
use Rattle.entries.specs.Layout.{latitude, farthest}
use Rattle.tables.specs.Figures.{central_meridian_of, first_latitude_of}
use Rattle.tables.proofs.Origins.{first_held, central_held}
use Rattle.reading.specs.Tables.{offset_of}
use Rattle.tables.proofs.Parts.{table_within}
use Rattle.tables.proofs.Ranges.{minutes_most}
use Rattle.extent.proofs.Reach.{latitude_span, longitude_span, size_reach}
use Rattle.inverse.specs.Inverse.{size_of, longitude_of}
use Rattle.inverse.proofs.Longitudes.{geographic-worked}
use Rattle.rounding.proofs.Bits.{bits_hold, both-same}
use borrow.Author.Rules.{rules}
use Rattle.inverse.proofs.geographic_at.Goals as goal
use Rattle.inverse.proofs.geographic_at.Goals.{After-struct_told-1, After-with_sign, Start}

-- the latitude, and the longitude, as they were worked
distance_most : (c : Start) → offset_of c.args.at ≤ farthest latitude
distance_most c = le_trans (minutes_most _ c.args.sheet.known.passes _ (table_within _ _ _ c.requires.0)) (latitude_span _ c.args.sheet.known.passes)

distance : (c : Start) → Holds w64 (offset_of c.args.at) (pos (offset_of c.args.at)) (farthest latitude)
distance c = held_size w64 (distance_most c) tt

first : (c : Start) → Holds w64 (of_z w64 c.args.sheet.origin.first_latitude) (first_latitude_of c.args.sheet.bytes.now) 324_000_000
first c = first_held _ c.args.sheet.known.passes _ c.args.sheet.measured

central : (c : Start) → Holds w64 (of_z w64 c.args.sheet.origin.central_meridian) (central_meridian_of c.args.sheet.bytes.now) 642_000_000
central c = central_held _ c.args.sheet.known.passes _ c.args.sheet.measured

size_is : (c : Start) → to_z w64 (of_z w64 c.args.size.value) ≡ c.args.size.value
size_is c = search rules

size_small : (c : Start) → nat_abs c.args.size.value ≤ most_s
size_small c = le_trans (size_reach _ _ c.requires.2).high (longitude_span _ c.args.sheet.known.passes)

-- L, with its sign
module _ (c : After-with_sign) where
  abbrev start : Start
  start = (goal.at.After-with_sign c).Start

  l_held : let args = start.args in Holds w64 (of_z w64 c.with_sign.result) (with_sign args.xp (size_of args.sheet.bytes.now (nat_abs args.xp) (offset_of args.at))) most_s
  l_held =
      let xp : to_z w64 (of_z w64 start.args.xp) ≡ start.args.xp = search rules in
      let same = both-same with_sign xp (size_is (goal.at.After-with_sign c).Start ∙ start.requires.1) in
      bits_hold c.with_sign.type_inv (c.with_sign.ensures ∙ same) (rw (size_with_sign, ← start.requires.1) (size_small (goal.at.After-with_sign c).Start))

pub returns : goal.returns
unfolding longitude_of
returns c =
    let north = cast (sum (first (start (goal.at.returns c).After-with_sign)) (distance (start (goal.at.returns c).After-with_sign)) tt) {v = w32} tt in
    let west = cast (difference (central (start (goal.at.returns c).After-with_sign)) (l_held (goal.at.returns c).After-with_sign) tt) {v = w32} tt in
    geographic-worked _ _ _ _ north.is refl west.is refl (start (goal.at.returns c).After-with_sign).requires.3

-- the place before a need
module _ (c : After-struct_told-1) where
  abbrev told : Start
  told = (goal.at.After-struct_told-1 c).Start

pub with_sign-requires : goal.with_sign-requires
with_sign-requires c = rw (size_is (told (goal.at.with_sign-requires c).After-struct_told-1)) (lt_of_le_of_lt (size_small (told (goal.at.with_sign-requires c).After-struct_told-1)) (lit< tt))

pub overflow_mul-t : goal.overflow_mul-t
overflow_mul-t c = record { fits = omega (arith, distance_most (goal.at.overflow_mul-t c).Start) }

pub overflow_add-t : goal.overflow_add-t
overflow_add-t c = record { fits = omega (arith, distance_most (goal.at.overflow_add-t c).Start) }

pub overflow_cast-result : goal.overflow_cast-result
overflow_cast-result c = record { sfits = omega (arith, distance_most (goal.at.overflow_cast-result c).Start) }

pub overflow_add-result : goal.overflow_add-result
overflow_add-result c = sum_fits (first (told c)) (distance (told c)) tt

pub overflow_cast-result-2 : goal.overflow_cast-result-2
overflow_cast-result-2 c = cast_fits (sum (first (told c)) (distance (told c)) tt) tt

pub overflow_sub-result : goal.overflow_sub-result
overflow_sub-result c = difference_fits (central (start (goal.at.overflow_sub-result c).After-with_sign)) (l_held (goal.at.overflow_sub-result c).After-with_sign) tt

pub overflow_cast-result-3 : goal.overflow_cast-result-3
overflow_cast-result-3 c = cast_fits (difference (central (start (goal.at.overflow_cast-result-3 c).After-with_sign)) (l_held (goal.at.overflow_cast-result-3 c).After-with_sign) tt) tt
