-- As many entries as kinds, each naming one of them and none twice, name each kind: by counting. Assumes nothing.
use mathlib.Core.Path.{◌≡◌, refl}
use mathlib.Core.Bool.{Bool, true, false, cond, ◌||◌}
use mathlib.Core.List.{List}
use Prim.Native.Nat.{ℕ, zero, suc, ◌+◌, ◌<◌, ◌≤◌}
use native.Mathlib.Decide.{dec_le}
use native.Mathlib.Omega.{arith}
use lib.Dec.{eqb}
use borrow.Author.Tests.{eqb-true, eq-eqb, ne_eqb}
use Rattle.entries.specs.declared.Form.{Form}
use Rattle.entries.specs.Entries.{kind_at, named, entry_of}

-- 1 where the kind is k, and the sum of g over the kinds 1 to n
abbrev hit : ℕ → ℕ → ℕ
hit k kind = cond (eqb kind k) 1 0

sum : (ℕ → ℕ) → ℕ → ℕ
sum g zero = 0
sum g (suc n) = sum g n + g (suc n)

sum_zero : (n : ℕ) → sum (λ k. 0) n ≡ 0
unfolding sum
sum_zero zero = refl
sum_zero (suc n) = omega (arith, sum_zero n)

sum_add : (g h : ℕ → ℕ) (n : ℕ) → sum (λ k. g k + h k) n ≡ sum g n + sum h n
unfolding sum
sum_add g h zero = refl
sum_add g h (suc n) = omega (arith, sum_add g h n)

-- a kind from 1 to n is hit once among them
no_hit : (kind n : ℕ) → n < kind → sum (λ k. hit k kind) n ≡ 0
unfolding sum
no_hit kind zero h = refl
no_hit kind (suc n) h = rw (ne_eqb kind (suc n) (λ e. omega arith)) (omega (arith, no_hit kind n (omega arith)))

one_hit : (kind n : ℕ) → 1 ≤ kind → kind ≤ n → sum (λ k. hit k kind) n ≡ 1
unfolding sum
one_hit kind zero l h = absurd (omega arith)
one_hit kind (suc n) l h = pick (dec_le kind n) (one_hit kind n l)
  where
    pick : Dec (kind ≤ n) → (kind ≤ n → sum (λ k. hit k kind) n ≡ 1) → sum (λ k. hit k kind) n + hit (suc n) kind ≡ 1
    pick (yes p) before = rw (ne_eqb kind (suc n) (λ e. omega arith)) (omega (arith, before p))
    pick (no p) before = let e : kind ≡ suc n = omega arith in rw (eq-eqb kind (suc n) e) (omega (arith, no_hit kind n (omega arith)))

-- n numbers of at most 1 that come to n are 1 each
sum_most : (g : ℕ → ℕ) (n : ℕ) → ((k : ℕ) → g k ≤ 1) → sum g n ≤ n
unfolding sum
sum_most g zero most = omega arith
sum_most g (suc n) most = omega (arith, sum_most g n most, most (suc n))

each_one : (g : ℕ → ℕ) (n : ℕ) → ((k : ℕ) → g k ≤ 1) → sum g n ≡ n → (k : ℕ) → 1 ≤ k → k ≤ n → 0 < g k
unfolding sum
each_one g zero most e k l h = absurd (omega arith)
each_one g (suc n) most e k l h =
    let rest : sum g n ≡ n = omega (arith, sum_most g n most, most (suc n)) in
    pick rest (dec_le k n) (each_one g n most rest k l)
  where
    pick : sum g n ≡ n → Dec (k ≤ n) → (k ≤ n → 0 < g k) → 0 < g k
    pick rest (yes p) before = before p
    pick rest (no p) before = let q : k ≡ suc n = omega arith in rw q (omega (arith, rest))

module _ (f : Form) (s : List ℕ) where
  -- how many of the first n entries name k
  count : ℕ → ℕ → ℕ
  count k zero = 0
  count k (suc n) = hit k (kind_at f s n) + count k n

  -- each entry names one of m kinds
  total : (m n : ℕ) → ((e : ℕ) → e < n → (1 ≤ kind_at f s e) × (kind_at f s e ≤ m)) → sum (λ k. count k n) m ≡ n
  unfolding count
  total m zero known = sum_zero m
  total m (suc n) known =
      let k = known n (omega arith) in
      omega (arith, sum_add (λ k. hit k (kind_at f s n)) (λ k. count k n) m, one_hit (kind_at f s n) m k.0 k.1, total m n (λ e h. known e (omega arith)))

  unnamed : (k n : ℕ) → named f s k n ≡ false → count k n ≡ 0
  unfolding count named
  unnamed k zero e = refl
  unnamed k (suc n) e = pick (eqb (kind_at f s n) k) e (unnamed k n)
    where
      pick : (b : Bool) → (b || named f s k n) ≡ false → (named f s k n ≡ false → count k n ≡ 0) → cond b 1 0 + count k n ≡ 0
      pick true e h = let z : ◌≡◌ {A = ℕ} 0 1 = cc in absurd (omega arith)
      pick false e h = omega (arith, h e)

  once : (k n : ℕ) → ((e : ℕ) → e < n → named f s (kind_at f s e) e ≡ false) → count k n ≤ 1
  unfolding count
  once k zero fresh = omega arith
  once k (suc n) fresh = pick (eqb (kind_at f s n) k) refl (once k n (λ e h. fresh e (omega arith)))
    where
      pick : (b : Bool) → eqb (kind_at f s n) k ≡ b → count k n ≤ 1 → cond b 1 0 + count k n ≤ 1
      pick true e h = omega (arith, unnamed k n (rw (eqb-true (kind_at f s n) k e) at (fresh n (omega arith))))
      pick false e h = omega arith

  -- a kind that is counted is found
  found : (k n : ℕ) → 0 < count k n → (entry_of f s k n < n) × (kind_at f s (entry_of f s k n) ≡ k)
  unfolding count entry_of
  found k zero h = absurd (omega arith)
  found k (suc n) h = pick (eqb (kind_at f s n) k) refl h (found k n)
    where
      pick : (b : Bool) → eqb (kind_at f s n) k ≡ b → 0 < cond b 1 0 + count k n
          → (0 < count k n → (entry_of f s k n < n) × (kind_at f s (entry_of f s k n) ≡ k))
          → (cond b n (entry_of f s k n) < suc n) × (kind_at f s (cond b n (entry_of f s k n)) ≡ k)
      pick true e h rest = (omega arith, eqb-true (kind_at f s n) k e)
      pick false e h rest = let r = rest (omega arith) in (omega arith, r.1)

  -- each kind has its entry
  pub each_kind : (n : ℕ) → ((e : ℕ) → e < n → (1 ≤ kind_at f s e) × (kind_at f s e ≤ n)) → ((e : ℕ) → e < n → named f s (kind_at f s e) e ≡ false)
      → (k : ℕ) → 1 ≤ k → k ≤ n → (entry_of f s k n < n) × (kind_at f s (entry_of f s k n) ≡ k)
  each_kind n known fresh k l h = found k n (each_one (λ k. count k n) n (λ k. once k n fresh) (total n n known) k l h)
