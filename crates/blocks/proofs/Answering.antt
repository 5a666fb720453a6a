-- The points program's way to answer lines gives the answers to each, and nothing behind them. Assumes nothing.
use Rattle.std.proofs.Common.{◌≡◌, refl, ap, ◌∙◌, ℕ, List, [], ◌∷◌, ◌++◌}
use Rattle.std.proofs.lemmas.List.{append-nil}
use Prim.{tt}
use Rattle.lines.specs.Lines.{answer_text}
use Rattle.stream.specs.Pieces.{answers, written}
use Rattle.blocks.specs.Blocks.{answering, answers_of}

pub answering_is : (s : List ℕ) (lines : List (List ℕ)) → answers (answering s) tt lines ≡ answers_of s lines
unfolding answers answers_of
answering_is s [] = refl
answering_is s (line ∷ lines) = ap (λ (x : List ℕ). answer_text s line ++ x) (answering_is s lines)

pub written_is : (s : List ℕ) (lines : List (List ℕ)) → written (answering s) tt lines ≡ answers_of s lines
unfolding written
written_is s lines = append-nil (answers (answering s) tt lines) ∙ answering_is s lines
