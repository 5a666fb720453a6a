-- Where a byte stands first in a text.
use Rattle.std.specs.Prelude.{ℕ, zero, suc, cond, List, [], ◌∷◌, eqb}

-- How many bytes stand before the first that is `byte`: the text's length where none is.
unfoldable pub index_of : ℕ → List ℕ → ℕ
index_of byte [] = zero
index_of byte (b ∷ text) = cond (eqb b byte) zero (suc (index_of byte text))
