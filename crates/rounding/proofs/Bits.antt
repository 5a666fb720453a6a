-- A number that a call answered, as the next call reads it from its bits. Assumes nothing.
use mathlib.Core.Path.{◌≡◌}
use Prim.Native.Nat.{ℕ, ◌^◌, ◌<◌, ◌≤◌}
use native.Mathlib.Nat.{le_refl, lt_of_le_of_lt}
use lib.Dec.{T, ltb, ltb→lt}
use borrow.Author.Rules.{sfits_of}
use lib.IntN.{ℤ, nat_abs}
use lib.Signed.{mag}
use mir.Facts.{to_z-of_z}
use mir.Syntax.{w64}
use mir.Val.{to_z, of_z}
use Rattle.rounding.proofs.Holds.{Holds, held_result, rebounded}

module _ {r : ℤ} (ok : mag r < 2 ^ 63) where
  pub bits_is : to_z w64 (of_z w64 r) ≡ r
  bits_is = to_z-of_z {w = w64} (sfits_of {w = w64} ok)

  -- under the name and the bound of what it is
  pub bits_hold : {v : ℤ} {k : ℕ} → r ≡ v → nat_abs v ≤ k → Holds w64 (of_z w64 r) v k
  bits_hold e h = rebounded (held_result w64 r ok (le_refl (nat_abs r))) e h

pub bits_most : (r : ℤ) {k : ℕ} → mag r < 2 ^ 63 → nat_abs r ≤ k → nat_abs (to_z w64 (of_z w64 r)) ≤ k
bits_most r ok h = rw (bits_is {r = r} ok) h

pub bits_below : (r : ℤ) {k : ℕ} → mag r < 2 ^ 63 → nat_abs r ≤ k → T (ltb k (2 ^ 63)) → nat_abs (to_z w64 (of_z w64 r)) < 2 ^ 63
bits_below r ok h t = lt_of_le_of_lt (bits_most r ok h) (ltb→lt _ _ t)

-- two of a point's numbers, read from their bits
pub both-same : {A : Type 0} (f : ℤ → ℤ → A) {a a' b b' : ℤ} → a' ≡ a → b' ≡ b → f a' b' ≡ f a b
both-same f e g = rw (e, g)
