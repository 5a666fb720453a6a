-- A passing sheet's origin o, as it was read: the bits of each of its numbers hold the sheet's. Assumes nothing.
use mathlib.Core.Path.{◌≡◌}
use mathlib.Core.List.{List}
use Prim.Native.Nat.{ℕ}
use mir.Syntax.{w64}
use mir.Val.{of_z}
use Rattle.rounding.proofs.Holds.{Holds, held_by}
use Rattle.sheet_check.specs.Check.{check_of}
use Rattle.tables.specs.declared.Origin.{Origin}
use Rattle.tables.specs.Figures.{central_meridian_of, false_easting_of, first_latitude_of, origin_of}
use Rattle.tables.proofs.Ranges.{central_size, easting_size, first_most}

module _ (s : List ℕ) (z : (check_of s).number ≡ 0) (o : Origin) (e : o ≡ origin_of s) where
  pub first_held : Holds w64 (of_z w64 o.first_latitude) (first_latitude_of s) 324_000_000
  unfolding origin_of
  first_held = rw e (held_by w64 (first_latitude_of s) (first_most s z) tt)

  pub central_held : Holds w64 (of_z w64 o.central_meridian) (central_meridian_of s) 642_000_000
  unfolding origin_of
  central_held = rw e (held_by w64 (central_meridian_of s) (central_size s z).high tt)

  pub easting_held : Holds w64 (of_z w64 o.false_easting) (false_easting_of s) 100_000_000
  unfolding origin_of
  easting_held = rw e (held_by w64 (false_easting_of s) (easting_size s z).high tt)
