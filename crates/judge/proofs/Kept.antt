-- What the judge's number tells, 0 exactly where every rule is kept, and how the row that the minute names gives way to the other rules. Assumes nothing.
use mathlib.Core.Path.{◌≡◌, sym, ◌∙◌}
use mathlib.Core.Bool.{true, false}
use mathlib.Core.List.{List}
use Prim.Native.Nat.{ℕ}
use native.Mathlib.Omega.{arith}
use lib.IntN.{ℤ}
use Rattle.refusals.specs.Ladder.{need}
use Rattle.refusals.proofs.Ladders.{rung, past}
use Rattle.rules.specs.declared.Figures.{Figures}
use Rattle.rules.specs.Latitude.{figures_in_range}
use Rattle.minute_row.specs.MinuteRow.{named_row, has_row}
use Rattle.judge.specs.Judge.{bound_before, bound_after, judged_by}

module _ (b : List ℕ) (n : ℕ) (minute : ℤ) (f : Figures) where
  -- a correction that keeps every rule
  pub record Kept : Type 0 where
    pub row : has_row b n minute ≡ true
    pub range : figures_in_range f ≡ true
    pub before : bound_before b (named_row b minute) f ≡ true
    pub after : bound_after b n (named_row b minute) f ≡ true

  pub zero_keeps : judged_by b n minute f ≡ 0 → Kept
  unfolding judged_by
  zero_keeps e =
      let p = rung _ 16 _ (λ q. omega arith) e in
      let q = rung _ 6 _ (λ q. omega arith) p.1 in
      let r = rung _ 8 _ (λ q. omega arith) q.1 in
      let t = rung _ 8 0 (λ q. omega arith) r.1 in
      record { row = p.0; range = q.0; before = r.0; after = t.0 }

  pub kept-zero : Kept → judged_by b n minute f ≡ 0
  unfolding judged_by
  kept-zero k = past 16 _ k.row ∙ past 6 _ k.range ∙ past 8 _ k.before ∙ past 8 0 k.after

  -- past the row, r: the rungs that are left
  abbrev pub by_row : ℕ → ℕ
  by_row r = need (figures_in_range f) 6 (need (bound_before b r f) 8 (need (bound_after b n r f) 8 0))

  pub no_row : has_row b n minute ≡ false → 16 ≡ judged_by b n minute f
  unfolding judged_by need
  no_row h = rw h

  pub row_found : has_row b n minute ≡ true → (r : ℕ) → r ≡ named_row b minute → by_row r ≡ judged_by b n minute f
  unfolding judged_by
  row_found h r e = rw e (sym (past 16 (by_row (named_row b minute)) h))
