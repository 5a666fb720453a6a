-- A byte that is not the one looked for puts its place further on. Assumes nothing.
use Rattle.std.proofs.Common.{◌≡◌, ℕ, suc, ◌≤◌, ◌<◌, List, ◌∷◌, [], length, get_or, refl, sym, ap, ◌∙◌, arith, Bool, true, false, one-add}
use Rattle.std.specs.Prelude.{eqb, cond, ◌==◌, nat_lt, position, Some, None}
use Rattle.std.specs.Option.{unwrap_or}
use Rattle.std.specs.List.{position_or_len}
use Rattle.std.proofs.lemmas.List.Recursion.{is_position_or_len}
use borrow.Author.Tests.{ltb-false}
use lib.Seq.{slice, slice-cons}
use Rattle.stream.specs.Search.{index_of}

-- what std's `position` finds, or the text's length where it finds none
pub index_most : (byte : ℕ) (text : List ℕ) → index_of byte text ≤ length text
unfolding index_of
index_most byte [] = omega arith
index_most byte (b ∷ text) = pick (eqb b byte) (index_most byte text)
  where
    pick : (t : Bool) → index_of byte text ≤ length text → cond t 0 (suc (index_of byte text)) ≤ length (b ∷ text)
    pick true h = omega arith
    pick false h = omega arith

index_is : (byte : ℕ) (text : List ℕ) → index_of byte text ≡ position_or_len (λ b. b == byte) text
unfolding index_of
index_is byte text = is_position_or_len (index_of byte) (λ b. b == byte) refl (λ b rest. ap (λ n. cond (eqb b byte) 0 n) (sym (one-add (index_of byte rest)))) text

pub position_is : (byte : ℕ) (text : List ℕ) (n : ℕ) → n ≡ length text → unwrap_or (position (λ b. b == byte) text) n ≡ index_of byte text
position_is byte text n l = pick (position_or_len (λ b. b == byte) text) (index_is byte text)
  where
    pick : (i : ℕ) → index_of byte text ≡ i → unwrap_or (cond (nat_lt i (length text)) (Some i) None) n ≡ index_of byte text
    pick i e = go (nat_lt i (length text)) refl
      where
        go : (t : Bool) → nat_lt i (length text) ≡ t → unwrap_or (cond t (Some i) None) n ≡ index_of byte text
        go true h = sym e
        go false h = omega (arith, l, e, index_most byte text, ltb-false i (length text) h)

module _ (byte : ℕ) where
  pub is_here : (b : ℕ) (text : List ℕ) → eqb b byte ≡ true → index_of byte (b ∷ text) ≡ 0
  unfolding index_of
  is_here b text t = rw t

  pub is_there : (b : ℕ) (text : List ℕ) → eqb b byte ≡ false → index_of byte (b ∷ text) ≡ suc (index_of byte text)
  unfolding index_of
  is_there b text t = rw t

  module _ (text : List ℕ) (to : ℕ) (long : to ≤ length text) where
    pub one_further : (i : ℕ) → i < to → eqb (get_or text i 0) byte ≡ false → index_of byte (slice i to text) ≡ suc (index_of byte (slice (suc i) to text))
    one_further i h e = ap (index_of byte) (slice-cons i to text 0 h long) ∙ is_there (get_or text i 0) (slice (suc i) to text) e
