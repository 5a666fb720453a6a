-- `row_search::last_not_above` meets its contract. Assumes nothing.
use native.Mathlib.Omega.{arith}
use mathlib.Core.Path.{◌≡◌, ap}
use mathlib.Core.List.{List}
use Prim.Native.Nat.{ℕ, ◌+◌, ◌*◌}
use mir.Facts.{to_z-of_z}
use Rattle.words.specs.Words.{word_at}
use Rattle.reading.specs.Tables.{column, NotNegative}
use Rattle.reading.proofs.Within.{row_within}
use Rattle.row_search.proofs.last_not_above.Goals as goal

-- row 0's figure is word c
first_row : (b : List ℕ) (w c : ℕ) → column b w c 0 ≡ word_at b c
first_row b w c = let e : w * 0 + c ≡ c = omega arith in ap (λ (i : ℕ). word_at b i) e

pub first_look-look-requires : goal.first_look-look-requires
unfolding NotNegative
first_look-look-requires c =
    let a = c.args in
    let p = c.requires in
    let first = first_row a.b.now a.w a.c in (
      p.0,
      p.3,
      omega (arith, row_within a.b.now a.w a.c a.n p.1 p.2 0 p.0),
      rw (← first) (p.4 0 p.0),
      rw (to_z-of_z c.ranges.z, ← first) p.6,
      rw (to_z-of_z c.ranges.z) p.7,
    )

pub down-requires : goal.down-requires
down-requires c =
    let p = c.requires in
    (c.first_look-look.ensures, p.1, p.2, p.4, rw (to_z-of_z c.ranges.z) p.6)

pub up-requires : goal.up-requires
up-requires c =
    let p = c.requires in
    (c.down.ensures.0, p.1, p.2, p.4, p.5, c.down.ensures.1)

pub returns : goal.returns
returns c =
    (rw (to_z-of_z c.ranges.z) at c.up.ensures.0, c.up.ensures.1)
