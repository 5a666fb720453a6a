-- Words as bytes.
use Rattle.std.specs.Prelude.{List, [], ◌∷◌, ℕ, ◌/◌, ◌%◌, ℤ}
use Rattle.words.specs.Words.{bits32}

-- Four bytes each, the first the highest.
unfoldable pub bytes_of : List ℤ → List ℕ
bytes_of [] = []
bytes_of (w ∷ ws) = bits32 w / 16_777_216 ∷ bits32 w / 65_536 % 256 ∷ bits32 w / 256 % 256 ∷ bits32 w % 256 ∷ bytes_of ws
