-- The lines of an input as they come, answered in any way: those that have ended are answered, the one that has not is kept. a is the state before; the buffer's bytes from `from` to `to` are those not
-- yet answered.
use Rattle.std.specs.Prelude.{ℕ, ◌≤◌, ◌≡◌, List, ◌++◌, length, drop}
use Rattle.std.proofs.Math.Seq.{slice}
use Rattle.decimal.specs.Writing.{Wrote}
use Rattle.stream.specs.Stream.{ended_lines, kept_of, most_kept}
use Rattle.stream.specs.Pieces.{Way, answers, after}
use Rattle.answering.specs.declared.Done.{Done}

-- What answering the buffer's lines leaves: their answers at the output's front, the state after them, what is kept of the line that has not ended at the buffer's front, all other bytes as they were.
pub record Answered {A : Type 0} (w : Way A) (buffer next : List ℕ) (from to : ℕ) (a : A) (old new : List ℕ) (r : Done A) : Type 0 where
  pub wrote : Wrote old new 0 r.at (answers w a (ended_lines (slice from to buffer)))
  pub state : r.state ≡ after w a (ended_lines (slice from to buffer))
  pub kept : r.kept ≡ length (kept_of (slice from to buffer))
  pub memory : next ≡ kept_of (slice from to buffer) ++ drop r.kept buffer
  pub few : r.kept ≤ most_kept
  pub fits : r.at ≤ length old
