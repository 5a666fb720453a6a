-- The names that a file has on its way to the disk. A name is its bytes.
use Rattle.std.specs.Prelude.{ℕ, ◌+◌, cond, List, [], ◌∷◌, ◌++◌, eqb, take}

abbrev pub slash : ℕ
slash = 47

-- Of a text whose first byte is at place i: the place behind its last slash, or `place` where it has none.
unfoldable pub behind_last : ℕ → ℕ → List ℕ → ℕ
behind_last i place [] = place
behind_last i place (b ∷ text) = behind_last (i + 1) (cond (eqb b slash) (i + 1) place) text

-- Where the name's last part begins, behind its folder: 0 where it names no folder.
unfoldable pub folder_end : List ℕ → ℕ
folder_end name = behind_last 0 0 name

-- "unfinished.XXXXXX"
abbrev pub unfinished : List ℕ
unfinished = 117 ∷ 110 ∷ 102 ∷ 105 ∷ 110 ∷ 105 ∷ 115 ∷ 104 ∷ 101 ∷ 100 ∷ 46 ∷ 88 ∷ 88 ∷ 88 ∷ 88 ∷ 88 ∷ 88 ∷ []

-- The template of the temporary name, whose last six letters are filled in: in the same folder, so that the file can take its own name by being renamed.
unfoldable pub temporary_of : List ℕ → List ℕ
temporary_of name = take (folder_end name) name ++ unfinished
