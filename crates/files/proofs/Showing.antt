-- A name's bytes put as they are shown, one after another. Assumes nothing.
use mathlib.Core.Path.{◌≡◌, refl, ap}
use mathlib.Core.List.{List, [], ◌∷◌, ◌++◌, map}
use Prim.Native.Nat.{ℕ, zero, suc, ◌+◌, ◌≤◌, ◌<◌}
use native.Mathlib.Omega.{arith}
use native.Mathlib.Numerals.{add-one}
use lib.ListN.{length, take, drop, get_or, set}
use lib.Seq.{take_all}
use Rattle.files.specs.Shown.{shown_byte}

-- a turn's store takes the first i bytes to one more
store : (name old : List ℕ) (i : ℕ) → i < length name → i < length old → set (map shown_byte (take i name) ++ drop i old) i (shown_byte (get_or name i 0)) ≡ map shown_byte (take (suc i) name) ++ drop (suc i) old
store [] old i h k = absurd (omega (arith, h))
store (x ∷ xs) [] i h k = absurd (omega (arith, k))
store (x ∷ xs) (y ∷ ys) zero h k = refl
store (x ∷ xs) (y ∷ ys) (suc i) h k = ap (λ (l : List ℕ). shown_byte x ∷ l) (store xs ys i (omega (arith, h)) (omega (arith, k)))

pub one_more : (name old memory : List ℕ) (i b : ℕ) → length name ≤ length old → i < length name → memory ≡ map shown_byte (take i name) ++ drop i old → b ≡ shown_byte (get_or name i 0) → set memory i b ≡ map shown_byte (take (i + 1) name) ++ drop (i + 1) old
one_more name old memory i b l h e g = rw (e, g, add-one i) (store name old i h (omega (arith, l, h)))

pub all_shown : (name old memory : List ℕ) (i : ℕ) → i ≤ length name → length name ≤ i → memory ≡ map shown_byte (take i name) ++ drop i old → memory ≡ map shown_byte name ++ drop (length name) old
all_shown name old memory i h k e = let f : i ≡ length name = omega arith in rw (f, take_all (length name) name (omega arith)) at e
