-- Bytes that are no line feed put the end of a line further on. Assumes nothing.
use mathlib.Core.Path.{◌≡◌, refl, sym, subst, ◌∙◌}
use mathlib.Core.Bool.{Bool, true, false, ◌&&◌}
use mathlib.Core.List.{List}
use Prim.Native.Nat.{ℕ, zero, suc, ◌+◌, ◌≤◌, ◌<◌}
use native.Mathlib.Omega.{arith}
use borrow.Author.Tests.{not-true}
use lib.Dec.{T, eqb}
use lib.ListN.{length, get_or}
use lib.Seq.{slice}
use Rattle.stream.specs.Search.{index_of}
use Rattle.stream.specs.Stream.{goes_on, all_go_on}
use Rattle.stream.proofs.Finding.{one_further}

-- both of two tests hold
both : (s t : Bool) → s && t ≡ true → (s ≡ true) × (t ≡ true)
both true t h = (refl, h)
both false t h = absurd (subst T (sym h) tt)

module _ (text : List ℕ) (to : ℕ) (long : to ≤ length text) where
  -- past one byte
  past : (i : ℕ) → i < to → goes_on text i ≡ true → suc i + index_of 10 (slice (suc i) to text) ≡ i + index_of 10 (slice i to text)
  unfolding goes_on
  past i h e =
      omega (arith, one_further 10 text to long i h (not-true (eqb (get_or text i 0) 10) e))

  -- past n of them
  pub past_all : (i n : ℕ) → i + n ≤ to → all_go_on text i n ≡ true → (i + n) + index_of 10 (slice (i + n) to text) ≡ i + index_of 10 (slice i to text)
  unfolding all_go_on
  past_all i zero h e = let none : i + 0 ≡ i = omega arith in rw none refl
  past_all i (suc n) h e =
      let tests = both (all_go_on text i n) (goes_on text (i + n)) e in
      let next : i + suc n ≡ suc (i + n) = omega arith in
      rw next (past (i + n) (omega arith) tests.1 ∙ past_all i n (omega arith) tests.0)

-- ---- the test of eight bytes, in the shape of the code
module _ (text : List ℕ) (i : ℕ) (a b c d e f g h : Bool) where
  pub eight : a ≡ goes_on text i → b ≡ goes_on text (i + 1) → c ≡ goes_on text (i + 2) → d ≡ goes_on text (i + 3)
      → e ≡ goes_on text (i + 4) → f ≡ goes_on text (i + 5) → g ≡ goes_on text (i + 6) → h ≡ goes_on text (i + 7)
      → a && b && c && d && e && f && g && h ≡ all_go_on text i 8
  unfolding all_go_on
  eight p q r s t u v w = let first : i + 0 ≡ i = omega arith in rw (p, q, r, s, t, u, v, w, first) refl
