-- One turn of a filter's loop: what was read behind the kept bytes of the buffer, d.kept of them, is taken, from the state d.state on. m is how many bytes the buffer holds after the read, none where the
-- read failed. That the system gave these bytes, no contract can say. buffer and next are the input's memory before the turn and after it, old and new the output's.
use Rattle.std.specs.Prelude.{ℕ, ◌<◌, ◌≤◌, ◌≡◌, true, false, List, length, take, Option, Some, None}
use Rattle.decimal.specs.Writing.{Wrote}
use Rattle.stream.specs.Stream.{last_line, most_kept}
use Rattle.stream.specs.Pieces.{Way, after, written}
use Rattle.answering.specs.declared.Done.{Done}
use Rattle.answering.specs.declared.Taken.{Taken}
use Rattle.answering.specs.Answered.{Answered}

pub record Turned {A : Type 0} (w : Way A) (buffer next : List ℕ) (d : Done A) (m : Option ℕ) (old new : List ℕ) (r : Taken A) : Type 0 where
  -- where bytes have come, the lines that have ended are answered, and the one that has not is kept, to 256 bytes
  pub more : (to : ℕ) → m ≡ Some to → d.kept < to → (r.ended ≡ false) × Answered w buffer next 0 to d.state old new r.done
  -- at the input's end, what is left is answered, and the closing text is written behind it
  pub last : (to : ℕ) → m ≡ Some to → to ≤ d.kept → (r.ended ≡ true) × (r.done.kept ≡ 0) × Wrote old new 0 r.done.at (written w d.state (last_line (take d.kept buffer))) × (r.done.state ≡ after w d.state (last_line (take d.kept buffer))) × (next ≡ buffer)
  -- where the read failed, nothing is answered or written
  pub none : m ≡ None → (r.ended ≡ true) × (r.done.kept ≡ 0) × (r.done.at ≡ 0) × (r.done.state ≡ d.state) × (new ≡ old) × (next ≡ buffer)
  -- there is room for the next read, and what is written is in the output
  pub few : r.done.kept ≤ most_kept
  pub fits : r.done.at ≤ length old
