-- The signed and the unsigned reading of one word: each from the other, and a test of range or of equality on one as a test on the other.
-- Assumes nothing.
use mathlib.Core.Path.{◌≡◌, refl, sym, ap, ◌∙◌}
use mathlib.Core.Bool.{Bool, true, false, ◌&&◌}
use Prim.Native.Nat.{ℕ, suc, ◌+◌, ◌-◌, ◌%◌, ◌≤◌, ◌<◌}
use native.Mathlib.Decide.{dec_lt}
use native.Mathlib.Omega.{arith}
use lib.Dec.{leb}
use borrow.Author.Tests.{lt-ltb, le-ltb, lt-leb}
use lib.IntN.{ℤ, pos, negsuc, nat_abs, ◌-ℤ◌}
use lib.Signed.{le_z}
use mir.Syntax.{w32}
use mir.Val.{SFits, to_z, of_z}
use mir.Facts.{to_z-of_z, Fits-of_z, sfits_to_z}
use Rattle.rounding.specs.Between.{lowered}
use Rattle.rounding.proofs.Sizes.{pos_minus, sub_ℕ_le, sub_ℕ_lt}
use Rattle.words.specs.Words.{signed32, bits32}

-- ---- the two readings are the machine's own
pub bits32_is : (v : ℤ) → bits32 v ≡ of_z w32 v
unfolding bits32
bits32_is (pos n) = refl
bits32_is (negsuc n) = refl

pub bits32-small : (v : ℤ) → SFits w32 v → bits32 v < 4_294_967_296
bits32-small v h = rw bits32_is (Fits-of_z h).fits

pub signed32_is : {n : ℕ} → n < 4_294_967_296 → signed32 n ≡ to_z w32 n
unfolding signed32
signed32_is {n} h = rw (lt-ltb n 4_294_967_296 h)

pub signed32-fits : {n : ℕ} → n < 4_294_967_296 → SFits w32 (signed32 n)
signed32-fits {n} h = rw (signed32_is h) (sfits_to_z (record { fits = h }))

pub signed32-bits32 : (v : ℤ) → SFits w32 v → signed32 (bits32 v) ≡ v
signed32-bits32 v h = signed32_is (bits32-small v h) ∙ ap (to_z w32) (bits32_is v) ∙ to_z-of_z h

-- ---- below 2³¹ the readings agree, and from there on the signed one is below zero
pub signed32_low : {n : ℕ} → n < 2_147_483_648 → signed32 n ≡ pos n
unfolding signed32
signed32_low {n} h = rw (lt-ltb n 2_147_483_648 h)

pub signed32_high : {n : ℕ} → 2_147_483_648 ≤ n → signed32 n ≡ pos n -ℤ pos 4_294_967_296
unfolding signed32
signed32_high {n} h = rw (le-ltb n 2_147_483_648 h)

pub signed32_below : {n : ℕ} → 2_147_483_648 ≤ n → n < 4_294_967_296 → signed32 n ≡ negsuc (4_294_967_295 - n)
signed32_below {n} h k =
    let e : 4_294_967_296 - suc n ≡ 4_294_967_295 - n = omega arith in
    signed32_high h ∙ sub_ℕ_lt k ∙ ap negsuc e

-- ---- a figure that may not be negative is tested without its sign
and-false : (a : Bool) → false ≡ (a && false)
and-false true = refl
and-false false = refl

module _ (n : ℕ) (small : n < 4_294_967_296) where
  -- lo ≤ word ≤ hi
  pub range_is : (lo hi : ℕ) → hi < 2_147_483_648 → (le_z (pos lo) (signed32 n) && le_z (signed32 n) (pos hi)) ≡ (leb lo n && leb n hi)
  range_is lo hi h = by-half (dec_lt n 2_147_483_648)
    where
      by-half : Dec (n < 2_147_483_648) → (le_z (pos lo) (signed32 n) && le_z (signed32 n) (pos hi)) ≡ (leb lo n && leb n hi)
      by-half (yes l) = rw (signed32_low l)
      by-half (no l) = rw (signed32_below {n = n} (omega arith) small, lt-leb n hi (omega arith)) (and-false (leb lo n))

  -- word = k
  pub equal_is : (k : ℕ) → k < 2_147_483_648 → signed32 n ≡ pos k → n ≡ k
  equal_is k h e = by-half (dec_lt n 2_147_483_648)
    where
      by-half : Dec (n < 2_147_483_648) → n ≡ k
      by-half (yes l) = ap nat_abs (sym (signed32_low l) ∙ e)
      by-half (no l) = let z : negsuc (4_294_967_295 - n) ≡ pos k = sym (signed32_below {n = n} (omega arith) small) ∙ e in cc

-- the bits raised by 2³¹, lowered again
pub raised_lowered : (n : ℕ) → n < 4_294_967_296 → lowered ((n + 2_147_483_648) % 4_294_967_296) ≡ signed32 n
unfolding lowered
raised_lowered n small = pick (dec_lt n 2_147_483_648)
  where
    pick : Dec (n < 2_147_483_648) → pos ((n + 2_147_483_648) % 4_294_967_296) -ℤ pos 2_147_483_648 ≡ signed32 n
    pick (yes l) =
        let up : (n + 2_147_483_648) % 4_294_967_296 ≡ n + 2_147_483_648 = omega arith in
        ap (λ (m : ℕ). pos m -ℤ pos 2_147_483_648) up
        ∙ pos_minus (n + 2_147_483_648) 2_147_483_648
        ∙ sub_ℕ_le {a = n + 2_147_483_648} {b = 2_147_483_648} (omega arith)
        ∙ ap pos {y = n} (omega arith)
        ∙ sym (signed32_low l)
    pick (no l) =
        let down : (n + 2_147_483_648) % 4_294_967_296 ≡ n - 2_147_483_648 = omega arith in
        ap (λ (m : ℕ). pos m -ℤ pos 2_147_483_648) down
        ∙ pos_minus (n - 2_147_483_648) 2_147_483_648
        ∙ sub_ℕ_lt {a = n - 2_147_483_648} {b = 2_147_483_648} (omega arith)
        ∙ ap negsuc {y = 4_294_967_295 - n} (omega arith)
        ∙ sym (signed32_below (omega arith) small)
