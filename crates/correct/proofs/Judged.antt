-- The correction's number, and the body and the sheet after it. Assumes nothing.
use mathlib.Core.Path.{◌≡◌, refl, sym, ap, ◌∙◌}
use mathlib.Core.Bool.{Bool, true, false, cond}
use mathlib.Core.List.{List}
use Prim.Native.Nat.{ℕ, ◌+◌, ◌*◌, ◌-◌, ◌≤◌}
use native.Mathlib.Omega.{arith}
use lib.Dec.{eqb}
use lib.IntN.{ℤ}
use lib.ListN.{length, take, drop}
use borrow.Rule.Slice.PartMut.{put_mid}
use Rattle.refusals.specs.Ladder.{where_is}
use Rattle.words.specs.Parts.{put_part}
use Rattle.refusals.proofs.Ladders.{is, is_not, refused, passed_on}
use Rattle.words.proofs.PuttingParts.{part_back, put_back}
use Rattle.entries.specs.declared.Place.{Place}
use Rattle.contents.specs.Contents.{Verdict}
use Rattle.entries.specs.Layout.{latitude, width_of, row_bytes}
use Rattle.entries.specs.Entries.{start_of, rows_of, body_of}
use Rattle.contents.specs.Contents.{number_of, contents_of, Placed}
use Rattle.contents.proofs.Cut.{cut_is}
use Rattle.rules.specs.declared.Figures.{Figures}
use Rattle.minute_row.specs.MinuteRow.{named_row}
use Rattle.judge.specs.Judge.{judged_by}
use Rattle.judge.proofs.Kept.{Kept, zero_keeps}
use Rattle.correct.specs.Correction.{correction_of, rewritten, corrected_body, with_row, corrected_of}

-- ---- on the body, in the shape of the code
module _ (b : List ℕ) (n : ℕ) (minute : ℤ) (f : Figures) where
  module _ (number : ℕ) (e : number ≡ judged_by b n minute f) where
    pub refused-stays : (number ≡ 0 → ⊥) → b ≡ corrected_body b n minute f
    unfolding corrected_body
    refused-stays h = is_not (judged_by b n minute f) 0 (rewritten b n (named_row b minute) f) b b (λ q. h (e ∙ q)) refl

    pub accepted_keeps : number ≡ 0 → Kept b n minute f
    accepted_keeps z = zero_keeps b n minute f (sym e ∙ z)

    pub accepted_writes : number ≡ 0 → (r : ℕ) (t : List ℕ) → r ≡ named_row b minute → t ≡ rewritten b n r f → t ≡ corrected_body b n minute f
    unfolding corrected_body
    accepted_writes z r t q w = is (judged_by b n minute f) 0 (rewritten b n (named_row b minute) f) b t (sym e ∙ z) (w ∙ rw q)

-- ---- the latitude body as it is lent: p is its place
abbrev lent : List ℕ → Place → List ℕ
lent s p = take (4 * p.start + 4 * (p.rows * width_of latitude) - 4 * p.start) (drop (4 * p.start) s)

module _ (s : List ℕ) (p : Place) (placed : Placed s latitude p) where
  lent_is : (lent s p ≡ body_of s latitude) × (length (lent s p) ≡ 4 * (p.rows * width_of latitude))
  lent_is = cut_is s latitude p placed (width_of latitude) refl (lent s p) refl

  -- it has its rows
  pub lent_rows : row_bytes latitude * p.rows ≤ length (lent s p)
  lent_rows = omega (arith, lent_is.1)

-- ---- on the sheet
module _ (s : List ℕ) (minute : ℤ) (f : Figures) where
  contents-number : (v : Verdict) → v ≡ contents_of s → (v.number ≡ 0 → ⊥) → v.number ≡ correction_of s minute f
  unfolding correction_of
  contents-number v e h =
      refused (λ n. n) (contents_of s).number (judged_by (body_of s latitude) (rows_of s latitude) minute f) v.number (ap number_of e) h

  pub contents_refuse : (v : Verdict) → v ≡ contents_of s → (v.number ≡ 0 → ⊥) → (v.number ≡ correction_of s minute f) × (s ≡ corrected_of s minute f)
  unfolding corrected_of
  contents_refuse v e h = (number, stays)
    where
      number : v.number ≡ correction_of s minute f
      number = contents-number v e h

      stays : s ≡ corrected_of s minute f
      stays = is_not (correction_of s minute f) 0 (with_row s (named_row (body_of s latitude) minute) f) s s (λ q. h (number ∙ q)) refl

  module _ (z : (contents_of s).number ≡ 0) where
    -- the number is the body's
    pub number_is : correction_of s minute f ≡ judged_by (body_of s latitude) (rows_of s latitude) minute f
    unfolding correction_of
    number_is =
        let judged = judged_by (body_of s latitude) (rows_of s latitude) minute f in
        sym (passed_on (λ n. n) (contents_of s).number judged (contents_of s).number refl judged z refl)

    -- and the sheet has the body after the correction
    sheet_is : put_part s (start_of s latitude) (rows_of s latitude * width_of latitude) (corrected_body (body_of s latitude) (rows_of s latitude) minute f) ≡ corrected_of s minute f
    unfolding corrected_body corrected_of with_row where_is body_of
    sheet_is = rw number_is (pick (eqb (judged_by (body_of s latitude) (rows_of s latitude) minute f) 0))
      where
        new : List ℕ
        new = rewritten (body_of s latitude) (rows_of s latitude) (named_row (body_of s latitude) minute) f

        put : List ℕ → List ℕ
        put b = put_part s (start_of s latitude) (rows_of s latitude * width_of latitude) b

        pick : (t : Bool) → put (cond t new (body_of s latitude)) ≡ cond t (put new) s
        pick true = refl
        pick false = put_back s (start_of s latitude) (rows_of s latitude * width_of latitude)

  -- ---- in the shape of the code: t is what came back of the part
  module _ (p : Place) (placed : Placed s latitude p) where
    pub sheet_number : (number : ℕ) → number ≡ judged_by (lent s p) p.rows minute f → number ≡ correction_of s minute f
    sheet_number number q = q ∙ rw ((lent_is s p placed).0, placed.place) (sym (number_is placed.contents))

    pub sheet_after : (t : List ℕ) → t ≡ corrected_body (lent s p) p.rows minute f
        → put_mid (4 * p.start) (4 * p.start + 4 * (p.rows * width_of latitude) - 4 * p.start) s t ≡ corrected_of s minute f
    sheet_after t q = part_back s t p.start (p.rows * width_of latitude) ∙ rw (q, (lent_is s p placed).0, placed.place) (sheet_is placed.contents)
