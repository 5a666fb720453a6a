-- Bytes moved to the buffer's front. Assumes nothing.
use mathlib.Core.Path.{◌≡◌, sym, ap, ◌∙◌}
use mathlib.Core.List.{List, [], ◌∷◌, ◌++◌}
use mathlib.Core.Logic.{◌⊎◌, inl, inr}
use Prim.Native.Nat.{ℕ, zero, suc, ◌+◌, ◌-◌, ◌≤◌, min}
use native.Mathlib.Omega.{arith}
use lib.ListN.{length, take, drop, length-drop}
use lib.Seq.{take-nil, take_all, take-take, slice, length-slice, length-take-le}
use Rattle.std.specs.List.{copy_within}
use Rattle.stream.specs.Stream.{most_kept}
use Rattle.stream.proofs.Cases.{split}

pub take_of_drop : (from k : ℕ) (l : List ℕ) → take k (drop from l) ≡ drop from (take (from + k) l)
take_of_drop zero k l = let e : 0 + k ≡ k = omega arith in rw e
take_of_drop (suc from) k [] = let e : suc from + k ≡ suc (from + k) = omega arith in rw e (take-nil k)
take_of_drop (suc from) k (b ∷ l) = let e : suc from + k ≡ suc (from + k) = omega arith in rw e (take_of_drop from k l)

pub part_is : (from to : ℕ) (l : List ℕ) → from ≤ to → take (to - from) (drop from l) ≡ slice from to l
part_is from to l h = let e : from + (to - from) ≡ to = omega (arith, h) in rw e at (take_of_drop from (to - from) l)

-- what std's `copy_within` leaves, of n bytes from `from` on to the front
pub moved : (old now : List ℕ) (from n : ℕ) → now ≡ copy_within old from (from + n) 0 → now ≡ take n (drop from old) ++ drop n old
moved old now from n e =
    let count : from + n - from ≡ n = omega arith in
    let end : 0 + n ≡ n = omega arith in
    rw (count, end) at e

-- what is kept
module _ (old : List ℕ) (from to n : ℕ) (a : from ≤ to) (b : to ≤ length old) (e : n ≡ min (to - from) most_kept) where
  pub kept_is : take n (drop from old) ≡ take most_kept (slice from to old)
  kept_is = go (split most_kept (to - from))
    where
      go : (most_kept ≤ to - from) ⊎ (to - from ≤ most_kept) → take n (drop from old) ≡ take most_kept (slice from to old)
      go (inl h) = let f : n ≡ most_kept = omega (arith, e, h) in rw (f, ← part_is from to old a) (sym (take-take most_kept (to - from) (drop from old) h))
      go (inr h) = let f : n ≡ to - from = omega (arith, e, h) in rw (f, part_is from to old a) (sym (take_all most_kept (slice from to old) (omega (arith, h, length-slice from to old b))))

  pub kept-length : n ≡ length (take most_kept (slice from to old))
  kept-length = sym (length-take-le n (drop from old) (omega (arith, a, b, e, length-drop from old))) ∙ ap length kept_is

  pub kept_memory : (new : List ℕ) → new ≡ take n (drop from old) ++ drop n old → new ≡ take most_kept (slice from to old) ++ drop n old
  kept_memory new w = rw kept_is at w
