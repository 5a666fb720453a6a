-- A part of a sheet that starts mid-sheet, as a body is one.
use Rattle.std.specs.Prelude.{List, ◌++◌, ℕ, ◌+◌, ◌*◌, take, drop}

-- The n words from word a on, as bytes; fewer where the sheet ends before.
abbrev pub part_of : List ℕ → ℕ → ℕ → List ℕ
part_of s a n = take (4 * n) (drop (4 * a) s)

-- The sheet with b in the place of its n words from word a on; every byte before and after them stays.
unfoldable pub put_part : List ℕ → ℕ → ℕ → List ℕ → List ℕ
put_part s a n b = take (4 * a) s ++ (b ++ drop (4 * (a + n)) s)
