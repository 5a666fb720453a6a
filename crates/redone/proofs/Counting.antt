-- The tally, count by count. Assumes nothing.
use mathlib.Core.Path.{◌≡◌, refl}
use mathlib.Core.Bool.{Bool, true, false}
use mathlib.Core.List.{List, ◌++◌}
use Prim.Native.Nat.{ℕ, ◌-◌, ◌≤◌}
use lib.ListN.{length, take, drop}
use lib.Seq.{slice}
use Rattle.std.specs.Prelude.{is_some}
use Rattle.refusals.proofs.Ladders.{is, is_not}
use Rattle.decimal.specs.Writing.{Wrote}
use Rattle.point_line.specs.PointLine.{line_of}
use Rattle.differing.specs.Differing.{differing_rows}
use Rattle.reached.specs.Reached.{reaches}
use Rattle.compared.specs.Compared.{changes, compared_text}
use Rattle.stream.specs.Stream.{last_line, ended_lines, unended, kept_of, most_kept}
use Rattle.stream.specs.Pieces.{answers, after, written}
use Rattle.answering.specs.declared.Done.{Done}
use Rattle.answering.specs.Answered.{Answered}
use Rattle.answering.proofs.Ending as ending
use Rattle.redone.specs.declared.Tally.{Tally}
use Rattle.redone.specs.Tallied.{up, up_where, stray_after, tallied, counts_text}
use Rattle.redone.specs.Redone.{comparing}

module _ (more : Bool) (n : ℕ) where
  pub one_up : (r : ℕ) → more ≡ true → r ≡ up n → r ≡ up_where more n
  unfolding up_where
  one_up r t e = rw t e

  pub as_before : more ≡ false → n ≡ up_where more n
  unfolding up_where
  as_before t = rw t

module _ (known : Bool) (stray n : ℕ) where
  pub known_line : known ≡ true → stray ≡ stray_after known stray n
  unfolding stray_after
  known_line t = rw t

  pub first_stray : known ≡ false → stray ≡ 0 → n ≡ stray_after known stray n
  unfolding stray_after
  first_stray t e = rw t (is stray 0 n stray n e refl)

  pub later_stray : known ≡ false → (stray ≡ 0 → ⊥) → stray ≡ stray_after known stray n
  unfolding stray_after
  later_stray t e = rw t (is_not stray 0 n stray stray e refl)

-- ---- a line more
module _ (s t : List ℕ) (a : Tally) (line : List ℕ) where
  pub counted-one : (point changed reached : Bool) (n i j k m : ℕ) → point ≡ is_some (line_of line) → changed ≡ changes s t (line_of line) → reached ≡ reaches s t (line_of line) (differing_rows s t)
      → n ≡ up a.lines → i ≡ up_where point a.points → j ≡ up_where changed a.changed → k ≡ up_where reached a.reached → m ≡ stray_after point a.stray n
      → record { lines = n; points = i; changed = j; reached = k; stray = m } ≡ tallied s t a (line_of line)
  unfolding tallied
  counted-one point changed reached n i j k m p q l e f g h o = rw (o, h, g, f, e, p, q, l)

  pub written_one : (n : ℕ) (old new : List ℕ) (at next : ℕ) → n ≡ up a.lines → Wrote old new at next (compared_text s t n (line_of line)) → Wrote old new at next (compared_text s t (up a.lines) (line_of line))
  written_one n old new at next e w = rw e at w

-- ---- a block of lines
module _ (s t buffer rest : List ℕ) (from to : ℕ) (a : Tally) (old new : List ℕ) (r : Done Tally) where
  pub compared : (read : ℕ) → slice read to buffer ≡ unended (slice from to buffer) → Wrote old new 0 r.at (answers (comparing s t) a (ended_lines (slice from to buffer))) → r.state ≡ after (comparing s t) a (ended_lines (slice from to buffer))
      → r.kept ≡ length (take most_kept (slice read to buffer)) → rest ≡ take most_kept (slice read to buffer) ++ drop r.kept buffer → r.kept ≤ most_kept → r.at ≤ length old → Answered (comparing s t) buffer rest from to a old new r
  unfolding kept_of
  compared read e w c n m l f = record { wrote = w; state = c; kept = rw e at n; memory = rw e at m; few = l; fits = f }

-- ---- the input's end
module _ (s t : List ℕ) (a : Tally) where
  pub none_left : (n : ℕ) (buffer old : List ℕ) → n ≡ 0 → (a ≡ after (comparing s t) a (last_line (take n buffer))) × Wrote old old 0 0 (answers (comparing s t) a (last_line (take n buffer)))
  none_left n buffer old e = (ending.none_after (comparing s t) a n buffer e, ending.none_answered (comparing s t) a n buffer old e)

  pub one_left : (n : ℕ) (buffer old new : List ℕ) (at : ℕ) (r : Tally) → n ≤ length buffer → (n ≡ 0 → ⊥) → r ≡ tallied s t a (line_of (take (n - 0) buffer)) → Wrote old new 0 at (compared_text s t (up a.lines) (line_of (take (n - 0) buffer)))
      → (r ≡ after (comparing s t) a (last_line (take n buffer))) × Wrote old new 0 at (answers (comparing s t) a (last_line (take n buffer)))
  one_left n buffer old new at r l h e w = (ending.one_after (comparing s t) a n buffer l h r e, ending.one_answered (comparing s t) a n buffer l h old new at w)

  pub closed : (lines : List (List ℕ)) (old mid new : List ℕ) (i at : ℕ) (r : Tally) → r ≡ after (comparing s t) a lines → Wrote old mid 0 i (answers (comparing s t) a lines) → Wrote mid new i at (counts_text r) → Wrote old new 0 at (written (comparing s t) a lines)
  closed lines old mid new i at r e v w = ending.closed (comparing s t) a lines old mid new i at r e v w
