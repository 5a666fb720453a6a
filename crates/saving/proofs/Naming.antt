-- The laws of the names: the search for the last slash, and what is put together. Assumes nothing.
use mathlib.Core.Path.{◌≡◌, refl, sym, ap, ◌∙◌}
use mathlib.Core.Bool.{cond}
use mathlib.Core.Logic.{◌≢◌}
use mathlib.Core.List.{List, [], ◌∷◌, ◌++◌, append_assoc}
use Prim.Native.Nat.{ℕ, zero, suc, ◌+◌, ◌-◌, ◌≤◌, ◌<◌}
use native.Mathlib.Omega.{arith}
use borrow.Author.Tests.{eq-eqb, ne_eqb}
use lib.Dec.{eqb}
use borrow.Rule.Slice.PartMut.{post_of}
use lib.ListN.{length, take, drop, get_or, length-append}
use lib.Seq.{drop-drop, length-take-le, take_at, drop_at}
use Rattle.saving.specs.Names.{slash, behind_last, folder_end, unfinished, temporary_of}

-- ---- the place behind the last slash
none_behind : (i place : ℕ) (text : List ℕ) → ((k : ℕ) → k < length text → get_or text k 0 ≢ slash) → behind_last i place text ≡ place
unfolding behind_last
none_behind i place [] h = refl
none_behind i place (b ∷ text) h = rw (ne_eqb b slash (h 0 (omega arith))) (none_behind (i + 1) place text (λ k l. h (suc k) (omega arith)))

last_behind : (i place : ℕ) (text : List ℕ) (j : ℕ) → j < length text → get_or text j 0 ≡ slash → ((k : ℕ) → j < k → k < length text → get_or text k 0 ≢ slash) → behind_last i place text ≡ i + j + 1
unfolding behind_last
last_behind i place [] j l e h = absurd (omega (arith, l))
last_behind i place (b ∷ text) zero l e h = rw (eq-eqb b slash e, none_behind (i + 1) (i + 1) text (λ k m. h (suc k) (omega arith) (omega arith))) (omega arith)
last_behind i place (b ∷ text) (suc j) l e h =
    let rest : behind_last (i + 1) (cond (eqb b slash) (i + 1) place) text ≡ i + 1 + j + 1 =
    last_behind (i + 1) (cond (eqb b slash) (i + 1) place) text j (omega (arith, l)) e (λ k m n. h (suc k) (omega arith) (omega arith)) in
    omega (arith, rest)

pub no_folder : (name : List ℕ) → ((k : ℕ) → k < length name → get_or name k 0 ≢ slash) → folder_end name ≡ 0
unfolding folder_end
no_folder name h = none_behind 0 0 name h

pub folder : (name : List ℕ) (i : ℕ) → i < length name → get_or name i 0 ≡ slash → ((k : ℕ) → i < k → k < length name → get_or name k 0 ≢ slash) → folder_end name ≡ i + 1
unfolding folder_end
folder name i l e h = last_behind 0 0 name i l e h ∙ omega arith

-- ---- the temporary name: n bytes of the name were put at the memory's front, and the rest of it behind them
module _ (name memory first : List ℕ) (n : ℕ) (place : n ≡ folder_end name) (within : n ≤ length name) (room : length name + 17 ≤ length memory) (copied : first ≡ take (n - 0) name ++ post_of 0 (n - 0) memory) where
  long : length (take n name) ≡ n
  long = length-take-le n name within

  put : first ≡ take n name ++ drop n memory
  put = let e : n - 0 ≡ n = omega arith in rw e at copied

  named : take n first ≡ take (folder_end name) name
  named = rw put (take_at (take n name) (drop n memory) n long) ∙ ap (λ (k : ℕ). take k name) place

  behind : post_of n (n + 17 - n) first ≡ drop (n + 17) memory
  behind =
      let e : n + 17 - n ≡ 17 = omega arith in
      rw (e, put) (ap (drop 17) (drop_at (take n name) (drop n memory) n long) ∙ drop-drop 17 n memory)

  both_put : take n first ++ (unfinished ++ post_of n (n + 17 - n) first) ≡ temporary_of name ++ drop (n + 17) memory
  unfolding temporary_of
  both_put = rw (behind, named) (sym (append_assoc (take (folder_end name) name) unfinished (drop (n + 17) memory)))

  both_long : n + 17 ≡ length (temporary_of name)
  unfolding temporary_of
  both_long = let e : length (take n name) ≡ length (take (folder_end name) name) = ap (λ (k : ℕ). length (take k name)) place in
      sym (length-append (take (folder_end name) name) unfinished ∙ omega (arith, long, e))

  both_fit : n + 17 ≤ length (take n first ++ (unfinished ++ post_of n (n + 17 - n) first))
  both_fit = rw both_put (omega (arith, both_long, length-append (temporary_of name) (drop (n + 17) memory)))

  pub temporary_put : (take n first ++ (unfinished ++ post_of n (n + 17 - n) first) ≡ temporary_of name ++ drop (n + 17) memory) × (n + 17 ≡ length (temporary_of name)) × (n + 17 ≤ length (take n first ++ (unfinished ++ post_of n (n + 17 - n) first)))
  temporary_put = (both_put, both_long, both_fit)
