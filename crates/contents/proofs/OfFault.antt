-- A first fault of the entries as the check's answer, in the shape of the code's needs: f is the code's where the definition has g. Assumes nothing.
use Prim.{Unit}
use mathlib.Core.Path.{◌≡◌, ap, ◌∙◌}
use Rattle.std.proofs.Common.{Result, Ok, Err, MatchResult}
use Rattle.std.specs.Result.{IsErrAnd}
use Rattle.contents.specs.declared.Refused.{Refused}
use mathlib.Core.List.{List}
use Prim.Native.Nat.{ℕ, ◌≤◌}
use native.Mathlib.Omega.{arith}
use Rattle.refusals.specs.Faults.{Fault}
use Rattle.refusals.specs.Ladder.{or_else}
use Rattle.refusals.specs.Faults.{first_fault}
use Rattle.refusals.proofs.FirstFault.{place-small}
use Rattle.refusals.proofs.Ladders.{refused, passed_on}
use Rattle.contents.specs.Contents.{Verdict}
use Rattle.entries.specs.declared.Form.{Form}
use Rattle.entries.specs.Layout.{Small, most_kinds}
use Rattle.contents.specs.Contents.{number_of, verdict_told, in_entries, entry_fault, contents_by}
use Rattle.entries.specs.Entries.{form_of}

module _ (f g : Fault) (y : Verdict) (e : f ≡ g) where
  pub refused_in : (f.number ≡ 0 → ⊥) → in_entries f ≡ or_else number_of (in_entries g) y
  refused_in n = refused number_of (in_entries g) y (in_entries f) (ap in_entries e) n

  pub passed_in : (z : Verdict) → f.number ≡ 0 → z ≡ y → z ≡ or_else number_of (in_entries g) y
  passed_in z n q = passed_on number_of (in_entries g) y (in_entries f) (ap in_entries e) z n q

pub number-none : {f g : Fault} → f ≡ g → f.number ≡ 0 → g.number ≡ 0
number-none e n = rw e at n

-- its place is an entry's
pub entry_place : (f : Form) (s : List ℕ) (g : Fault) → Small f → g ≡ first_fault (entry_fault f s) f.kinds 0 → g.place ≤ most_kinds
entry_place f s g small e = rw e (omega (arith, place-small (entry_fault f s) f.kinds 0, small.few))

-- the contents by the sheet's own form
pub by_form : (s : List ℕ) (f : Form) (r : Verdict) → f ≡ form_of s → r ≡ contents_by f s → r ≡ contents_by (form_of s) s
by_form s f r e q = rw (← e) q

-- an error that `?` hands on
pub matched_err : {A : Type 0} (P : A → Type 0) (r : Result A Refused) (e : Refused) (v : Verdict) → IsErrAnd r (λ x. x ≡ e) → verdict_told (Err e) ≡ v → MatchResult r P (λ x. verdict_told (Err x) ≡ v)
matched_err P (Err x) e v h q = ap (λ y. verdict_told (Err y)) h ∙ q
matched_err P (Ok _) e v h q = elim h [ ]
