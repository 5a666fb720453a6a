-- Line after line of the buffer answered, in any way, with so much room for each. Assumes nothing.
use Rattle.std.proofs.Common.{◌≡◌, ℕ, ◌+◌, ◌-◌, ◌*◌, ◌≤◌, ◌<◌, List, [], ◌++◌, length, take, drop, refl, sym, ◌∙◌, arith}
use Rattle.std.proofs.lemmas.List.{append-nil, append_assoc}
use Rattle.std.proofs.Math.Nat.{mul-le-mul_left}
use Rattle.std.proofs.Math.Seq.{slice}
use Rattle.stream.specs.Search.{index_of}
use Rattle.decimal.specs.Writing.{Wrote}
use Rattle.decimal.proofs.Spelling.{then}
use Rattle.stream.specs.Stream.{ended_lines, unended}
use Rattle.stream.specs.Pieces.{Way, answers, after}
use Rattle.stream.proofs.Parts.{line_ended, line_open}

-- The lines from `from` to i are answered, from state a to state b.
pub record Working {A : Type 0} (w : Way A) (room : ℕ) (buffer : List ℕ) (from to : ℕ) (a : A) (old out : List ℕ) (i at : ℕ) (b : A) : Type 0 where
  pub text : List ℕ
  pub wrote : Wrote old out 0 at text
  pub those : text ++ answers w b (ended_lines (slice i to buffer)) ≡ answers w a (ended_lines (slice from to buffer))
  pub state : after w b (ended_lines (slice i to buffer)) ≡ after w a (ended_lines (slice from to buffer))
  pub left : unended (slice i to buffer) ≡ unended (slice from to buffer)
  pub inside : i ≤ to
  pub far : at ≤ room * i

module _ {A : Type 0} (w : Way A) (room : ℕ) (buffer : List ℕ) (from to : ℕ) (a : A) (old : List ℕ) where
  pub start : from ≤ to → Working w room buffer from to a old old from 0 a
  start h = record { text = []; wrote = record { place = refl; bytes = refl }; those = refl; state = refl; left = refl; inside = h; far = omega arith }

module _ {A : Type 0} {w : Way A} {room : ℕ} {buffer : List ℕ} {from to : ℕ} {a : A} {old out : List ℕ} {i at : ℕ} {b : A} (g : Working w room buffer from to a old out i at b) (long : to ≤ length buffer) (end : ℕ) (e : end ≡ i + index_of 10 (slice i to buffer)) where
  line : List ℕ
  line = take (end - i) (drop i buffer)

  pub one_more : end < to → {new : List ℕ} {next : ℕ} → Wrote out new at next (w.answer b (take (end - i) (drop i buffer))) → next ≤ at + room → Working w room buffer from to a old new (end + 1) next (w.next b (take (end - i) (drop i buffer)))
  unfolding answers after line
  one_more h {new} {next} v l =
      let n = line_ended buffer i to end long e h in
      record {
        text = g.text ++ w.answer b line;
        wrote = then g.wrote v;
        those = append_assoc g.text (w.answer b line) (answers w (w.next b line) (ended_lines (slice (end + 1) to buffer))) ∙ rw n.lines at g.those;
        state = rw n.lines at g.state;
        left = sym n.left ∙ g.left;
        inside = omega (arith, h);
        far = step;
      }
    where
      step : next ≤ room * (end + 1)
      step = let m : room * i ≤ room * end = mul-le-mul_left room (omega (arith, e)) in omega (arith, m, l, g.far)

  -- no line is left that has ended
  pub record Finished : Type 0 where
    pub rest : slice i to buffer ≡ unended (slice from to buffer)
    pub all : Wrote old out 0 at (answers w a (ended_lines (slice from to buffer)))
    pub end_state : b ≡ after w a (ended_lines (slice from to buffer))
    pub fits : at ≤ room * to

  pub finished : to ≤ end → end ≤ to → Finished
  unfolding answers after
  finished h k =
      let n = line_open buffer i to end long e g.inside h k in
      let t : g.text ≡ answers w a (ended_lines (slice from to buffer)) = sym (append-nil g.text) ∙ rw n.lines at g.those in
      record { rest = sym n.left ∙ g.left; all = rw t at g.wrote; end_state = rw n.lines at g.state; fits = fits }
    where
      fits : at ≤ room * to
      fits = let m : room * i ≤ room * to = mul-le-mul_left room g.inside in omega (arith, m, g.far)
