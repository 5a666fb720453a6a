-- What `within`, `sized` and an entry with no fault tell of the numbers. Assumes nothing.
use mathlib.Core.Path.{◌≡◌, refl}
use mathlib.Core.Bool.{Bool, true, false}
use mathlib.Core.List.{List}
use Prim.Native.Nat.{ℕ, ◌%◌, ◌<◌, ◌≤◌}
use native.Mathlib.Nat.{le_trans}
use native.Mathlib.Omega.{arith}
use lib.Dec.{leb, eqb}
use lib.ListN.{length}
use borrow.Author.Tests.{leb-true, eqb-true, lt-leb}
use Rattle.rounding.proofs.Tests.{both}
use Rattle.refusals.specs.Ladder.{need}
use Rattle.refusals.proofs.Ladders.{kept}
use Rattle.entries.specs.declared.Form.{Form}
use Rattle.entries.specs.Layout.{Small, least_bytes, most_bytes, most_kinds}
use Rattle.entries.specs.Entries.{kind_at, form_of}
use Rattle.entries.proofs.Forms.{some_word}
use Rattle.contents.specs.Contents.{within, entry_fault, sized}

pub within-true : (least n most : ℕ) → within least n most ≡ true → (least ≤ n) × (n ≤ most)
unfolding within
within-true least n most e =
    let h = both (leb least n) (leb n most) e in
    (leb-true least n h.0, leb-true n most h.1)

-- a kind that was found among the kinds is one
pub known_below : (f : Form) (kind : ℕ) (b : Bool) → Small f → b ≡ within 1 kind f.kinds → b ≡ true → kind ≤ most_kinds
known_below f kind b small t p = le_trans (within-true 1 kind f.kinds (kept (within 1 kind f.kinds) b t p)).1 small.few

-- an entry with no fault names a kind that there is
pub fault-known : (f : Form) (s : List ℕ) (e x : ℕ) → Small f → x ≡ entry_fault f s e → x ≡ 0 → kind_at f s e ≤ most_kinds
unfolding entry_fault need
fault-known f s e x small p z = pick (within 1 (kind_at f s e) f.kinds) refl
  where
    pick : (k : Bool) → within 1 (kind_at f s e) f.kinds ≡ k → kind_at f s e ≤ most_kinds
    pick true q = le_trans (within-true 1 (kind_at f s e) f.kinds q).1 small.few
    pick false q = let two : ◌≡◌ {A = ℕ} 2 0 = cc in absurd (omega arith)

-- ---- the length
pub sized-true : (s : List ℕ) → sized s ≡ true → (least_bytes (form_of s) ≤ length s) × (length s ≤ most_bytes) × (length s % 4 ≡ 0)
unfolding sized
sized-true s e =
    let h = both (within (least_bytes (form_of s)) (length s) most_bytes) (eqb (length s % 4) 0) e in
    let l = within-true (least_bytes (form_of s)) (length s) most_bytes h.0 in
    (l.0, l.1, eqb-true (length s % 4) 0 h.1)

pub long : (s : List ℕ) (b : Bool) → b ≡ sized s → b ≡ true → least_bytes (form_of s) ≤ length s
long s b t p = (sized-true s (kept (sized s) b t p)).0

pub has_word : (s : List ℕ) (b : Bool) → b ≡ sized s → b ≡ true → 4 ≤ length s
has_word s b t p = some_word s (long s b t p)

-- a sheet without a word 0 is none
pub too_short : (s : List ℕ) → length s < 4 → false ≡ sized s
unfolding sized within
too_short s h = rw (lt-leb (least_bytes (form_of s)) (length s) (omega arith))
