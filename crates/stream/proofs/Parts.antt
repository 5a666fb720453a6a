-- The next line of a part of the buffer, from i to `to`, by the place that `line_end` finds. Assumes nothing.
use mathlib.Core.Path.{◌≡◌, sym, ◌∙◌}
use mathlib.Core.List.{List, [], ◌∷◌}
use Prim.Native.Nat.{ℕ, suc, ◌+◌, ◌-◌, ◌≤◌, ◌<◌}
use native.Mathlib.Omega.{arith}
use lib.ListN.{length, take, drop}
use lib.Seq.{take-take, drop-drop, slice, length-slice}
use Rattle.stream.specs.Search.{index_of}
use Rattle.stream.specs.Stream.{ended_lines, unended}
use Rattle.stream.proofs.Splitting.{first_line, no_line}
use Rattle.stream.proofs.Moving.{take_of_drop, part_is}

-- It has ended: the line, and the rest behind its line feed.
pub record Ended (buffer : List ℕ) (i to end : ℕ) : Type 0 where
  pub lines : ended_lines (slice i to buffer) ≡ take (end - i) (drop i buffer) ∷ ended_lines (slice (end + 1) to buffer)
  pub left : unended (slice i to buffer) ≡ unended (slice (end + 1) to buffer)

-- It has not: all of the part is the line that has not ended.
pub record Open (buffer : List ℕ) (i to : ℕ) : Type 0 where
  pub lines : ended_lines (slice i to buffer) ≡ []
  pub left : unended (slice i to buffer) ≡ slice i to buffer

module _ (buffer : List ℕ) (i to end : ℕ) (b : to ≤ length buffer) (e : end ≡ i + index_of 10 (slice i to buffer)) where
  pub line_ended : end < to → Ended buffer i to end
  line_ended h =
      let k = index_of 10 (slice i to buffer) in
      let f = first_line (slice i to buffer) [] (omega (arith, e, h, length-slice i to buffer b)) in
      let at : i + k ≡ end = omega (arith, e) in
      let next : i + suc k ≡ end + 1 = omega (arith, e) in
      let line : take k (slice i to buffer) ≡ take (end - i) (drop i buffer) = take_of_drop i k (take to buffer) ∙ rw (at, take-take end to buffer (omega (arith, h))) (sym (part_is i end buffer (omega (arith, e)))) in
      let rest : drop (suc k) (slice i to buffer) ≡ slice (end + 1) to buffer = rw (drop-drop (suc k) i (take to buffer), next) in
      record { lines = f.lines ∙ rw (line, rest); left = f.left ∙ rw rest }

  pub line_open : i ≤ to → to ≤ end → end ≤ to → Open buffer i to
  line_open a h g = let n = no_line (slice i to buffer) [] (omega (arith, a, e, h, g, length-slice i to buffer b)) in record { lines = n.lines; left = n.left }
