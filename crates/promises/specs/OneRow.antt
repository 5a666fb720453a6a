-- Demand 3 by the check and by the words that may differ: which sheets a correction of row r reaches from s. Only `put_in_lem` and `put_figures_lem` name `put_in`, the writing without the judging. But for `RefusedStays`, s
-- passes and r is a row of its latitude body, counted from 0; t is any sheet. Words are numbered from the sheet's start, and byte q lies in word q / 4.
use Rattle.std.specs.Prelude.{◌≡◌, List, ◌⊎◌, ℕ, ◌+◌, ◌-◌, ◌*◌, ◌/◌, ◌<◌, ◌≤◌, ℤ, length, get_or}
use Rattle.words.specs.Words.{word_at}
use Rattle.entries.specs.Layout.{latitude, width_of}
use Rattle.entries.specs.Entries.{start_of, rows_of}
use Rattle.rules.specs.declared.Figures.{Figures}
use Rattle.correct.specs.Correction.{figures, correction_of, corrected_of}
use Rattle.promises.specs.Corrections.{Passes, Words, put_in}

-- "minute; y0; Δy; H; ΔH; V; ΔV; a": the word of column k, 0 to 7, in row i.
abbrev pub word_of : List ℕ → ℕ → ℕ → ℕ
word_of s i k = start_of s latitude + width_of latitude * i + k

-- "It gives a minute and new y0, H, V, a": those that row r has.
abbrev pub minute_in : List ℕ → ℕ → ℤ
minute_in s r = word_at s (word_of s r 0)

abbrev pub figures_in : List ℕ → ℕ → Figures
figures_in t r = figures (word_at t (word_of t r 1)) (word_at t (word_of t r 3)) (word_at t (word_of t r 5)) (word_at t (word_of t r 7))

-- "the four figures and the reworked differences of that row and the row before": every word of row r but its minute; and Δy, ΔH, ΔV of the row before, where there is one.
abbrev pub OfRow : List ℕ → ℕ → ℕ → Type 0
OfRow s r w = (word_of s r 1 ≤ w) × (w ≤ word_of s r 7)

abbrev pub OfRowBefore : List ℕ → ℕ → ℕ → Type 0
OfRowBefore s r w = (0 < r) × ((w ≡ word_of s (r - 1) 2) ⊎ ((w ≡ word_of s (r - 1) 4) ⊎ (w ≡ word_of s (r - 1) 6)))

-- "all other bytes stay": t is s but for these words.
pub record ButFor (s t : List ℕ) (r : ℕ) : Type 0 where
  pub long : length t ≡ length s
  pub others : (q : ℕ) → (OfRow s r (q / 4) → ⊥) → (OfRowBefore s r (q / 4) → ⊥) → get_or t q 0 ≡ get_or s q 0

-- A list of bytes, as every slice of u8 is.
abbrev pub Bytes : List ℕ → Type 0
Bytes t = (q : ℕ) → get_or t q 0 < 256

pub record Reaches (s : List ℕ) (r : ℕ) : Type 0 where
  -- Every sheet t that passes and is s but for the row: the correction to t's figures is accepted, and the lent sheet is then t, byte for byte.
  pub every : (t : List ℕ) → Bytes t → Passes t → ButFor s t r → (correction_of s (minute_in s r) (figures_in t r) ≡ 0) × (corrected_of s (minute_in s r) (figures_in t r) ≡ t)
  -- And no other: after a correction that was accepted the sheet is one of these, with f in the row, and is a list of bytes if s is one.
  pub no_other : (f : Figures) → correction_of s (minute_in s r) f ≡ 0
      → let t = corrected_of s (minute_in s r) f in Passes t × ButFor s t r × (figures_in t r ≡ f) × (Bytes s → Bytes t)
  -- The row keeps its minute, accepted or refused.
  pub keeps_minute : (f : Figures) → minute_in (corrected_of s (minute_in s r) f) r ≡ minute_in s r
  -- `put_in` too is s but for these words, for figures that are refused too.
  pub put_in_lem : (f : Figures) → ButFor s (put_in s (minute_in s r) f) r
  -- Row r of `put_in`'s sheet holds f, for figures that are refused too, where all four are signed 32-bit numbers.
  pub put_figures_lem : (f : Figures) → Words f → figures_in (put_in s (minute_in s r) f) r ≡ f

abbrev pub ReachesRows : Type 0
ReachesRows = (s : List ℕ) → Passes s → (r : ℕ) → r < rows_of s latitude → Reaches s r

-- "Refused, it writes nothing": the lent sheet is s itself, of any bytes, any minute and any figures.
abbrev pub RefusedStays : Type 0
RefusedStays = (s : List ℕ) (minute : ℤ) (f : Figures) → (correction_of s minute f ≡ 0 → ⊥) → corrected_of s minute f ≡ s
