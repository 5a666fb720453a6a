-- The counts of the redo program. s is the old sheet, t the new one; a is the tally so far, l what a line asks.
use Rattle.std.specs.Prelude.{ℕ, ◌+◌, Bool, cond, List, ◌++◌, Option, is_some}
use Rattle.refusals.specs.Ladder.{where_is}
use Rattle.decimal.specs.Writing.{size_text}
use Rattle.point_line.specs.declared.Line.{Line}
use Rattle.lines.specs.Lines.{ended}
use Rattle.differing.specs.Differing.{differing_rows}
use Rattle.reached.specs.Reached.{reaches}
use Rattle.compared.specs.Compared.{changes}
use Rattle.redone.specs.declared.Tally.{Tally}

-- One more, to the most that 64 bits hold, which no run reaches.
unfoldable pub up : ℕ → ℕ
up n = where_is n 18_446_744_073_709_551_615 n (n + 1)

-- One more where it is so.
unfoldable pub up_where : Bool → ℕ → ℕ
up_where more n = cond more (up n) n

-- The number of the first line of no known form, 0 where there is none yet; n is this line's.
unfoldable pub stray_after : Bool → ℕ → ℕ → ℕ
stray_after known stray n = cond known stray (where_is stray 0 n stray)

-- The tally with one line more: how many lines there were, how many were points, changed their answer and may be touched, and the first stray one.
unfoldable pub tallied : List ℕ → List ℕ → Tally → Option Line → Tally
tallied s t a l =
    record {
      lines = up a.lines;
      points = up_where (is_some l) a.points;
      changed = up_where (changes s t l) a.changed;
      reached = up_where (reaches s t l (differing_rows s t)) a.reached;
      stray = stray_after (is_some l) a.stray (up a.lines);
    }

abbrev pub no_tally : Tally
no_tally = record { lines = 0; points = 0; changed = 0; reached = 0; stray = 0 }

-- What is printed of it: points, changed, reached.
unfoldable pub counts_text : Tally → List ℕ
counts_text a = ended (size_text a.points) 32 ++ (ended (size_text a.changed) 32 ++ ended (size_text a.reached) 10)
