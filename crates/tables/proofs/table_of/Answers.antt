-- `tables::table_of` meets its contract. Assumes nothing.
use mathlib.Core.Path.{◌≡◌}
use native.Mathlib.Omega.{arith}
use Rattle.sheet_check.proofs.Known.{zone-placed, latitude-placed, longitude-placed, northing-placed, easting-placed, scale-placed}
use Rattle.tables.proofs.table_of.Goals as goal
use Rattle.tables.proofs.table_of.Goals.{in-1, in-2, in-3, in-4, in-5, in_default}

pub invariant_of-result : goal.invariant_of-result
invariant_of-result c = record {
  placed = elim c.match-kind.branch [
    | in-1 w ↦ let is : c.args.kind ≡ 1 = omega (arith, w.in-1) in rw (is, w.place-is) (zone-placed _ _ c.requires.0)
    | in-2 w ↦ let is : c.args.kind ≡ 2 = omega (arith, w.in-2) in rw (is, w.place-is) (latitude-placed _ _ c.requires.0)
    | in-3 w ↦ let is : c.args.kind ≡ 3 = omega (arith, w.in-3) in rw (is, w.place-is) (longitude-placed _ _ c.requires.0)
    | in-4 w ↦ let is : c.args.kind ≡ 4 = omega (arith, w.in-4) in rw (is, w.place-is) (northing-placed _ _ c.requires.0)
    | in-5 w ↦ let is : c.args.kind ≡ 5 = omega (arith, w.in-5) in rw (is, w.place-is) (easting-placed _ _ c.requires.0)
    | in_default w ↦
        let is : c.args.kind ≡ 6 = omega (arith, c.requires.1, c.requires.2, w.in_default) in
        rw (is, w.place-is) (scale-placed _ _ c.requires.0)
  ];
}
