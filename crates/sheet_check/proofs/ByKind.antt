-- The laws that the loop over the kinds goes by: the bodies of the kinds below k have no fault, and f is the fault of kind k's. Assumes nothing.
use mathlib.Core.Path.{◌≡◌, refl, sym, ap, ◌∙◌}
use mathlib.Core.List.{List}
use Prim.Native.Nat.{ℕ, suc, ◌+◌, ◌-◌, ◌<◌, ◌≤◌}
use native.Mathlib.Numerals.{add-one}
use native.Mathlib.Omega.{arith}
use Rattle.refusals.specs.Faults.{Fault}
use Rattle.refusals.specs.Ladder.{or_else}
use Rattle.refusals.proofs.Ladders.{refused, passed_on}
use Rattle.contents.specs.Contents.{Verdict}
use Rattle.entries.specs.Layout.{last_kind, zone}
use Rattle.contents.specs.Contents.{verdict, number_of, contents_of}
use Rattle.sheet_check.specs.Check.{fault_of, in_kind, bodies_of, check_of}

-- ---- the contents come first
module _ (s : List ℕ) (c : Verdict) (e : c ≡ contents_of s) where
  pub contents_refuse : (c.number ≡ 0 → ⊥) → c ≡ check_of s
  unfolding check_of
  contents_refuse n = refused number_of (contents_of s) (bodies_of s last_kind zone) c e n

  pub contents_pass : c.number ≡ 0 → (contents_of s).number ≡ 0
  contents_pass n = rw (← e) n

  pub first_kind : c.number ≡ 0 → check_of s ≡ bodies_of s (last_kind + 1 - zone) zone
  unfolding check_of
  first_kind n = sym (passed_on number_of (contents_of s) (bodies_of s last_kind zone) c e (bodies_of s (last_kind + 1 - zone) zone) n refl)

-- ---- then kind after kind
module _ (s : List ℕ) (k : ℕ) (passed : check_of s ≡ bodies_of s (last_kind + 1 - k) k) where
  one_kind : k ≤ last_kind → bodies_of s (last_kind + 1 - k) k ≡ or_else number_of (in_kind k (fault_of s k)) (bodies_of s (last_kind + 1 - (k + 1)) (k + 1))
  unfolding bodies_of
  one_kind h = let l : last_kind + 1 - k ≡ suc (last_kind + 1 - (k + 1)) = omega arith in rw (l, add-one k)

  module _ (f : Fault) (e : f ≡ fault_of s k) (h : k ≤ last_kind) where
    pub kind_refused : (f.number ≡ 0 → ⊥) → in_kind k f ≡ check_of s
    kind_refused n = refused number_of (in_kind k (fault_of s k)) (bodies_of s (last_kind + 1 - (k + 1)) (k + 1)) (in_kind k f) (ap (in_kind k) e) n ∙ sym (passed ∙ one_kind h)

    pub kind_passed : f.number ≡ 0 → check_of s ≡ bodies_of s (last_kind + 1 - (k + 1)) (k + 1)
    kind_passed n =
        passed
        ∙ one_kind h
        ∙ sym (passed_on number_of (in_kind k (fault_of s k)) (bodies_of s (last_kind + 1 - (k + 1)) (k + 1)) (in_kind k f) (ap (in_kind k) e) (bodies_of s (last_kind + 1 - (k + 1)) (k + 1)) n refl)

  pub kinds_end : last_kind < k → verdict 0 0 0 ≡ check_of s
  unfolding bodies_of
  kinds_end h = let l : last_kind + 1 - k ≡ 0 = omega arith in sym (passed ∙ rw l)
