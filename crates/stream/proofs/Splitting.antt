-- The lines of a text with more behind it. Assumes nothing.
use mathlib.Core.Path.{◌≡◌, refl, sym, ap, ◌∙◌}
use mathlib.Core.Bool.{Bool, true, false, cond}
use mathlib.Core.List.{List, [], ◌∷◌, ◌++◌, append-nil, append_assoc}
use Prim.Native.Nat.{ℕ, zero, suc, ◌<◌}
use native.Mathlib.Omega.{arith}
use lib.Dec.{eqb}
use lib.ListN.{length, take, drop}
use Rattle.stream.proofs.Finding.{is_here, is_there}
use Rattle.stream.specs.Search.{index_of}
use Rattle.stream.specs.Stream.{last_line, lines_from, lines_of, ended_from, ended_lines, unended_from, unended}

pub snoc : (l : List ℕ) (b : ℕ) (m : List ℕ) → (l ++ b ∷ []) ++ m ≡ l ++ b ∷ m
snoc l b m = append_assoc l (b ∷ []) m

-- No line ends in the text.
abbrev pub NoEnd : List ℕ → Type 0
NoEnd text = index_of 10 text ≡ length text

-- ---- where a line feed stands first, and where none does
index_here : (b : ℕ) (text : List ℕ) → eqb b 10 ≡ true → index_of 10 (b ∷ text) ≡ 0
index_here b text t = is_here 10 b text t

pub index_there : (b : ℕ) (text : List ℕ) → eqb b 10 ≡ false → index_of 10 (b ∷ text) ≡ suc (index_of 10 text)
index_there b text t = is_there 10 b text t

pub no_end_none : NoEnd []
unfolding index_of
no_end_none = refl

-- ---- a text and what comes behind it
pub lines_split : (text line rest : List ℕ) → lines_from line (text ++ rest) ≡ ended_from line text ++ lines_from (unended_from line text) rest
unfolding lines_from ended_from unended_from
lines_split [] line rest = refl
lines_split (b ∷ text) line rest = go (eqb b 10) refl (lines_split text [] rest) (lines_split text (line ++ b ∷ []) rest)
  where
    go : (t : Bool) → eqb b 10 ≡ t
        → lines_from [] (text ++ rest) ≡ ended_from [] text ++ lines_from (unended_from [] text) rest
        → lines_from (line ++ b ∷ []) (text ++ rest) ≡ ended_from (line ++ b ∷ []) text ++ lines_from (unended_from (line ++ b ∷ []) text) rest
        → cond (eqb b 10) (line ∷ lines_from [] (text ++ rest)) (lines_from (line ++ b ∷ []) (text ++ rest))
        ≡ cond (eqb b 10) (line ∷ ended_from [] text) (ended_from (line ++ b ∷ []) text) ++ lines_from (cond (eqb b 10) (unended_from [] text) (unended_from (line ++ b ∷ []) text)) rest
    go true t here there = rw t (ap (λ (l : List (List ℕ)). line ∷ l) here)
    go false t here there = rw t there

-- ---- a text in which a line ends
module _ (b : ℕ) (text line : List ℕ) where
  ended_here : eqb b 10 ≡ true → ended_from line (b ∷ text) ≡ line ∷ ended_from [] text
  unfolding ended_from
  ended_here t = rw t

  ended_there : eqb b 10 ≡ false → ended_from line (b ∷ text) ≡ ended_from (line ++ b ∷ []) text
  unfolding ended_from
  ended_there t = rw t

  unended_here : eqb b 10 ≡ true → unended_from line (b ∷ text) ≡ unended_from [] text
  unfolding unended_from
  unended_here t = rw t

  unended_there : eqb b 10 ≡ false → unended_from line (b ∷ text) ≡ unended_from (line ++ b ∷ []) text
  unfolding unended_from
  unended_there t = rw t

  lines_there : (rest : List ℕ) → eqb b 10 ≡ false → lines_from line (b ∷ rest) ≡ lines_from (line ++ b ∷ []) rest
  unfolding lines_from
  lines_there rest t = rw t

-- The first line, and the rest behind its line feed.
pub record First (line text : List ℕ) : Type 0 where
  pub lines : ended_from line text ≡ (line ++ take (index_of 10 text) text) ∷ ended_lines (drop (suc (index_of 10 text)) text)
  pub left : unended_from line text ≡ unended (drop (suc (index_of 10 text)) text)

pub first_line : (text line : List ℕ) → index_of 10 text < length text → First line text
first_line [] line h = absurd (omega arith)
first_line (b ∷ text) line h = go (eqb b 10) refl (first_line text (line ++ b ∷ []))
  where
    go : (t : Bool) → eqb b 10 ≡ t → (index_of 10 text < length text → First (line ++ b ∷ []) text) → First line (b ∷ text)
    go true t more = record { lines = rw (index_here b text t, append-nil line) (ended_here b text line t); left = rw (index_here b text t) (unended_here b text line t) }
    go false t more =
        let m = more (omega (arith, h, index_there b text t)) in
        record {
          lines = rw (index_there b text t) (ended_there b text line t ∙ m.lines ∙ rw (snoc line b (take (index_of 10 text) text)));
          left = rw (index_there b text t) (unended_there b text line t ∙ m.left);
        }

-- Where none ends, the text only makes the line longer.
pub record Longer (line text : List ℕ) : Type 0 where
  pub lines : ended_from line text ≡ []
  pub left : unended_from line text ≡ line ++ text
  pub all : (rest : List ℕ) → lines_from line (text ++ rest) ≡ lines_from (line ++ text) rest

pub no_line : (text line : List ℕ) → NoEnd text → Longer line text
unfolding ended_from unended_from
no_line [] line e = record { lines = refl; left = sym (append-nil line); all = λ rest. rw (append-nil line) }
no_line (b ∷ text) line e = go (eqb b 10) refl (no_line text (line ++ b ∷ []))
  where
    go : (t : Bool) → eqb b 10 ≡ t → (NoEnd text → Longer (line ++ b ∷ []) text) → Longer line (b ∷ text)
    go true t more = absurd (omega (arith, e, index_here b text t))
    go false t more =
        let m = more (omega (arith, e, index_there b text t)) in
        record {
          lines = ended_there b text line t ∙ m.lines;
          left = unended_there b text line t ∙ m.left ∙ snoc line b text;
          all = λ rest. lines_there b text line (text ++ rest) t ∙ m.all rest ∙ rw (snoc line b text);
        }

-- ---- no line ends in what has not ended
no_end_more : (line : List ℕ) (b : ℕ) → NoEnd line → eqb b 10 ≡ false → NoEnd (line ++ b ∷ [])
no_end_more [] b e t = index_there b [] t ∙ ap suc no_end_none
no_end_more (a ∷ line) b e t = go (eqb a 10) refl (no_end_more line b)
  where
    go : (u : Bool) → eqb a 10 ≡ u → (NoEnd line → eqb b 10 ≡ false → NoEnd (line ++ b ∷ [])) → NoEnd (a ∷ line ++ b ∷ [])
    go true u more = absurd (omega (arith, e, index_here a line u))
    go false u more = index_there a (line ++ b ∷ []) u ∙ ap suc (more (omega (arith, e, index_there a line u)) t)

pub unended-none : (text line : List ℕ) → NoEnd line → NoEnd (unended_from line text)
unfolding unended_from
unended-none [] line e = e
unended-none (b ∷ text) line e = go (eqb b 10) refl (unended-none text [] no_end_none) (unended-none text (line ++ b ∷ []))
  where
    go : (t : Bool) → eqb b 10 ≡ t → NoEnd (unended_from [] text) → (NoEnd (line ++ b ∷ []) → NoEnd (unended_from (line ++ b ∷ []) text)) → NoEnd (cond (eqb b 10) (unended_from [] text) (unended_from (line ++ b ∷ []) text))
    go true t here there = rw t here
    go false t here there = rw t (there (no_end_more line b e t))

pub front_none : (n : ℕ) (text : List ℕ) → NoEnd text → NoEnd (take n text)
front_none zero text e = no_end_none
front_none (suc n) [] e = e
front_none (suc n) (b ∷ text) e = go (eqb b 10) refl (front_none n text)
  where
    go : (t : Bool) → eqb b 10 ≡ t → (NoEnd text → NoEnd (take n text)) → index_of 10 (b ∷ take n text) ≡ suc (length (take n text))
    go true t more = absurd (omega (arith, e, index_here b text t))
    go false t more = index_there b (take n text) t ∙ ap suc (more (omega (arith, e, index_there b text t)))

-- ---- the input's end
pub last_of : (text : List ℕ) → NoEnd text → lines_of text ≡ last_line text
unfolding lines_from
last_of text e = rw (append-nil text) at ((no_line text [] e).all [])
