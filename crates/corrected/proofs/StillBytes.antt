-- A correction that keeps the rules writes bytes: where the sheet holds bytes, so does the sheet after it. Assumes nothing.
use mathlib.Core.Path.{◌≡◌, sym, ap, ◌∙◌}
use mathlib.Core.Bool.{true}
use mathlib.Core.List.{List}
use Prim.Native.Nat.{ℕ, ◌+◌, ◌-◌, ◌*◌, ◌/◌, ◌%◌, ◌<◌, ◌≤◌}
use native.Mathlib.Decide.{ℕ_discrete, dec_lt}
use native.Mathlib.Omega.{arith}
use lib.Dec.{lit<}
use lib.IntN.{ℤ}
use lib.ListN.{length, drop, get_or, set, length-set, get_or-eq_default}
use lib.Seq.{get_or-set_same, get_or-set_other, get_or-take, get_or-drop}
use mir.Syntax.{w32}
use mir.Val.{SFits}
use Rattle.words.specs.Words.{bits32, put_bits, put_word}
use Rattle.refusals.specs.Ladder.{where_below}
use Rattle.words.specs.Parts.{part_of, put_part}
use Rattle.refusals.proofs.Ladders.{where_below_lem, where_beyond}
use Rattle.words.proofs.TwosComplement.{bits32-small}
use Rattle.words.proofs.PuttingParts.{before_part, after_part, part_put}
use Rattle.entries.specs.Layout.{latitude, width_of, row_bytes}
use Rattle.entries.specs.Entries.{start_of, rows_of, body_of}
use Rattle.contents.specs.Contents.{contents_of}
use Rattle.rules.specs.declared.Figures.{Figures}
use Rattle.rules.specs.Latitude.{figures_in_range, differences_of, no_differences}
use Rattle.latitude_rows.specs.Rows.{figures_at}
use Rattle.latitude_rows.proofs.PassingRows.{LatitudeRow}
use Rattle.sheet_check.specs.Check.{check_of}
use Rattle.sheet_check.proofs.Sound.{passes_sound, latitude_rows}
use Rattle.sheet_check.proofs.Known.{contents-none}
use Rattle.judge.specs.Judge.{bound_before, bound_after}
use Rattle.writing.specs.Rows.{put_figures, put_differences}
use Rattle.correct.specs.Correction.{worked_at, reworked, rewritten, with_row}
use Rattle.writing.proofs.RowWords.{FiguresFit, DifferencesFit, figures_fit, differences_fit, none_fit, figures_elsewhere, figures_put, figures-by_differences}
use Rattle.correct.proofs.Rewritten.{figures_stay, figures_new}
use Rattle.corrected.proofs.NewRows.{new_rows}
use Rattle.corrected.proofs.WithRow.{within, whole, body_long}

record Bytes (x : List ℕ) : Type 0 where
  byte : (q : ℕ) → get_or x q 0 < 256

-- ---- a byte, a word, figures and differences
set-bytes : (x : List ℕ) (i v : ℕ) → Bytes x → v < 256 → Bytes (set x i v)
set-bytes x i v bytes small = record { byte = λ q. pick q (ℕ_discrete q i) (dec_lt i (length x)) }
  where
    pick : (q : ℕ) → Dec (q ≡ i) → Dec (i < length x) → get_or (set x i v) q 0 < 256
    pick q (yes e) (yes h) = rw (e, get_or-set_same x i v 0 h) small
    pick q (yes e) (no h) = rw (get_or-eq_default (set x i v) 0 {n = q} (omega (arith, length-set x i v))) (lit< tt)
    pick q (no other) h = rw (get_or-set_other x i q v 0 other) (bytes.byte q)

put_bytes : (x : List ℕ) (w : ℕ) (v : ℤ) → Bytes x → SFits w32 v → Bytes (put_word x w v)
unfolding put_word put_bits
put_bytes x w v bytes fit =
    let n = bits32 v in
    let small : bits32 v < 4_294_967_296 = bits32-small v fit in
    set-bytes _ (4 * w + 3) (n % 256) (set-bytes _ (4 * w + 2) (n / 256 % 256) (set-bytes _ (4 * w + 1) (n / 65_536 % 256) (set-bytes x (4 * w) (n / 16_777_216) bytes (omega arith)) (omega arith)) (omega arith)) (omega arith)

figures-bytes : (x : List ℕ) (i : ℕ) (f : Figures) → Bytes x → FiguresFit f → Bytes (put_figures x i f)
unfolding put_figures
figures-bytes x i f bytes fit = put_bytes _ _ _ (put_bytes _ _ _ (put_bytes _ _ _ (put_bytes x _ _ bytes fit.y0) fit.h) fit.v) fit.a

reworked-bytes : (x : List ℕ) (n i : ℕ) → Bytes x → DifferencesFit (worked_at x n i) → Bytes (reworked x n i)
unfolding reworked put_differences
reworked-bytes x n i bytes fit = put_bytes _ _ _ (put_bytes _ _ _ (put_bytes x _ _ bytes fit.y) fit.h) fit.v

-- ---- the body
module _ (b : List ℕ) (n r : ℕ) (f : Figures) (long : row_bytes latitude * n ≤ length b) (there : r < n) (rows : (i : ℕ) → i < n → LatitudeRow b n i) (range : figures_in_range f ≡ true)
    (before : bound_before b r f ≡ true) (after : bound_after b n r f ≡ true) where
  abbrev new : List ℕ
  new = rewritten b n r f

  abbrev placed : List ℕ
  placed = put_figures b r f

  abbrev own : List ℕ
  own = reworked placed n r

  fit_worked : (x : List ℕ) → ((j : ℕ) → figures_at x j ≡ figures_at new j) → (i : ℕ) → i < n → DifferencesFit (worked_at x n i)
  unfolding worked_at
  fit_worked x same i h = pick (dec_lt (i + 1) n)
    where
      pick : Dec (i + 1 < n) → DifferencesFit (where_below (i + 1) n (differences_of (figures_at x i) (figures_at x (i + 1))) no_differences)
      pick (yes l) =
          rw (where_below_lem (i + 1) n (differences_of (figures_at x i) (figures_at x (i + 1))) no_differences l, same i, same (i + 1))
          (differences_fit (figures_at new i) (figures_at new (i + 1)) ((new_rows b n r f long there rows range before after i h).bounds l))
      pick (no l) = rw (where_beyond (i + 1) n (differences_of (figures_at x i) (figures_at x (i + 1))) no_differences (omega arith)) none_fit

  placed_same : (j : ℕ) → figures_at placed j ≡ figures_at new j
  placed_same j = pick (ℕ_discrete j r)
    where
      pick : Dec (j ≡ r) → figures_at placed j ≡ figures_at new j
      pick (yes e) = rw e (figures_put b r f (omega arith) (figures_fit f range) ∙ sym (figures_new b n r f long there (figures_fit f range)))
      pick (no other) = figures_elsewhere b r f j other ∙ sym (figures_stay b n r f j other)

  own_same : (j : ℕ) → figures_at own j ≡ figures_at new j
  unfolding reworked
  own_same j = figures-by_differences placed r (worked_at placed n r) j ∙ placed_same j

  body_bytes : Bytes b → Bytes new
  unfolding rewritten
  body_bytes bytes = pick (dec_lt 0 r)
    where
      own_bytes : Bytes own
      own_bytes = reworked-bytes placed n r (figures-bytes b r f bytes (figures_fit f range)) (fit_worked placed placed_same r there)

      pick : Dec (0 < r) → Bytes (where_below 0 r (reworked own n (r - 1)) own)
      pick (yes h) = rw (where_below_lem 0 r (reworked own n (r - 1)) own h) (reworked-bytes own n (r - 1) own_bytes (fit_worked own own_same (r - 1) (omega arith)))
      pick (no h) = rw (where_beyond 0 r (reworked own n (r - 1)) own (omega arith)) own_bytes

-- ---- the sheet
module _ (s : List ℕ) (ok : (check_of s).number ≡ 0) (r : ℕ) (f : Figures) (there : r < rows_of s latitude) where
  abbrev a : ℕ
  a = start_of s latitude

  abbrev n : ℕ
  n = rows_of s latitude

  z : (contents_of s).number ≡ 0
  z = contents-none s ok

  byte_of : (u : List ℕ) (q : ℕ) → q < 4 * (n * width_of latitude) → get_or (part_of u a (n * width_of latitude)) q 0 ≡ get_or u (4 * a + q) 0
  byte_of u q h = get_or-take (4 * (n * width_of latitude)) (drop (4 * a) u) q 0 h ∙ get_or-drop (4 * a) u q 0

  old_bytes : Bytes s → Bytes (body_of s latitude)
  unfolding body_of
  old_bytes bytes = record { byte = λ q. pick q (dec_lt q (4 * (n * width_of latitude))) }
    where
      pick : (q : ℕ) → Dec (q < 4 * (n * width_of latitude)) → get_or (body_of s latitude) q 0 < 256
      pick q (yes h) = rw (byte_of s q h) (bytes.byte (4 * a + q))
      pick q (no h) = rw (get_or-eq_default (body_of s latitude) 0 {n = q} (omega (arith, body_long s z r f))) (lit< tt)

  pub still_bytes : figures_in_range f ≡ true → bound_before (body_of s latitude) r f ≡ true → bound_after (body_of s latitude) n r f ≡ true → ((q : ℕ) → get_or s q 0 < 256) → (q : ℕ) → get_or (with_row s r f) q 0 < 256
  unfolding with_row
  still_bytes range before after bytes q = pick (dec_lt q (4 * a)) (dec_lt q (4 * (a + n * width_of latitude)))
    where
      put : List ℕ
      put = rewritten (body_of s latitude) n r f

      inside : (j : ℕ) → 4 * a + j ≡ q → j < 4 * (n * width_of latitude) → get_or (put_part s a (n * width_of latitude) put) q 0 < 256
      inside j e h =
          let read : get_or (put_part s a (n * width_of latitude) put) q 0 ≡ get_or put j 0 =
          ap (λ (k : ℕ). get_or (put_part s a (n * width_of latitude) put) k 0) (sym e)
          ∙ sym (byte_of (put_part s a (n * width_of latitude) put) j h)
          ∙ ap (λ (u : List ℕ). get_or u j 0) (part_put s put a (n * width_of latitude) (within s z r f) (whole s z r f)) in
          rw read ((body_bytes (body_of s latitude) n r f (omega (arith, body_long s z r f)) there (latitude_rows s (passes_sound s ok)) range before after (old_bytes (record { byte = bytes }))).byte j)

      pick : Dec (q < 4 * a) → Dec (q < 4 * (a + n * width_of latitude)) → get_or (put_part s a (n * width_of latitude) put) q 0 < 256
      pick (yes h) k = rw (before_part s put a (n * width_of latitude) (within s z r f) (whole s z r f) q h) (bytes q)
      pick (no h) (no k) = rw (after_part s put a (n * width_of latitude) (within s z r f) (whole s z r f) q (omega arith)) (bytes q)
      pick (no h) (yes k) = inside (q - 4 * a) (omega arith) (omega arith)
