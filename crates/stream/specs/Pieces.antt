-- The lines of an input answered one after another, read at once or in pieces.
use Rattle.std.specs.Prelude.{ℕ, ◌≡◌, List, [], ◌∷◌, ◌++◌, take}
use Rattle.stream.specs.Stream.{last_line, ended_lines, kept_of, most_kept}

-- A way to answer lines: what a line is answered, the state after it, and what stands behind the last answer.
pub record Way (A : Type 0) : Type 0 where
  pub answer : A → List ℕ → List ℕ
  pub next : A → List ℕ → A
  pub close : A → List ℕ

module _ {A : Type 0} (w : Way A) where
  -- The answers to lines, from a state on, and the state after them.
  unfoldable pub answers : A → List (List ℕ) → List ℕ
  answers a [] = []
  answers a (line ∷ lines) = w.answer a line ++ answers (w.next a line) lines

  unfoldable pub after : A → List (List ℕ) → A
  after a [] = a
  after a (line ∷ lines) = after (w.next a line) lines

  -- What is written for the lines of a whole input.
  unfoldable pub written : A → List (List ℕ) → List ℕ
  written a lines = answers a lines ++ w.close (after a lines)

  -- What is written for an input that comes in pieces, pieces of no bytes among them: after each piece the answers to the lines that have ended by then; at the input's end the answer to what is left,
  -- and the closing text. `kept` is what is held of the line that has not ended.
  unfoldable pub in_pieces : A → List ℕ → List (List ℕ) → List ℕ
  in_pieces a kept [] = written a (last_line kept)
  in_pieces a kept (piece ∷ pieces) =
      answers a (ended_lines (kept ++ piece))
      ++ in_pieces (after a (ended_lines (kept ++ piece))) (kept_of (kept ++ piece)) pieces

  -- No line is asked for further than it is kept.
  pub record ByFront : Type 0 where
    pub answered : (a : A) (line : List ℕ) → w.answer a (take most_kept line) ≡ w.answer a line
    pub state : (a : A) (line : List ℕ) → w.next a (take most_kept line) ≡ w.next a line

-- The input that the pieces make.
unfoldable pub joined : List (List ℕ) → List ℕ
joined [] = []
joined (piece ∷ pieces) = piece ++ joined pieces
