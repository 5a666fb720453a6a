-- The contents written entry by entry, in the shape of the code: e entries are written, and due is the word at which the next entry's body starts. Assumes nothing.
use mathlib.Core.Path.{◌≡◌, ap, ◌∙◌}
use mathlib.Core.List.{List}
use Prim.Native.Nat.{ℕ, ◌+◌, ◌*◌, ◌<◌, ◌≤◌}
use native.Mathlib.Nat.{mul-le-mul_left}
use native.Mathlib.Numerals.{add-one}
use native.Mathlib.Omega.{arith}
use lib.ListN.{length, get_or}
use mir.Syntax.{w64}
use mir.Val.{Fits}
use Rattle.entries.specs.declared.Form.{Form}
use Rattle.entries.specs.Layout.{HasContents, most_kinds, most_first, most_bytes, most_width, width_of}
use Rattle.entries.proofs.Spans.{width_small}
use Rattle.writing.specs.Contents.{most_written, put_entry, due_in, put_entries, Writable}

-- a sheet as long has contents as long
pub as_long : (f : Form) (s t : List ℕ) → HasContents f s → length t ≡ length s → HasContents f t
as_long f s t has same = record { small = has.small; long = omega (arith, has.long) }

module _ (f : Form) (kinds rows : List ℕ) (e : ℕ) where
  -- ---- the numbers of the next entry are small
  module _ (can : Writable f kinds rows) (h : e < f.kinds) where
    pub kind_known : get_or kinds e 0 ≤ most_kinds
    kind_known = can.known e h

    pub kind_small : get_or kinds e 0 ≤ most_written
    kind_small = omega (arith, kind_known)

    pub rows_small : get_or rows e 0 ≤ most_written
    rows_small = omega (arith, can.few e h)

    -- and so is a body's length, of whatever kind
    module _ (kind width : ℕ) (w : width ≡ width_of kind) where
      pub span_most : get_or rows e 0 * width ≤ most_bytes * most_width
      span_most = rw w (omega (arith, can.few e h, mul-le-mul_left (get_or rows e 0) (width_small kind)))

      pub span_fits : Fits w64 (get_or rows e 0 * width)
      span_fits = record { fits = omega (arith, span_most) }

    module _ (s : List ℕ) (has : HasContents f s) (due : ℕ) (near : due ≤ most_first + e * (most_bytes * most_width)) where
      pub due_small : due ≤ most_written
      due_small = omega (arith, has.small.few)

      module _ (kind width : ℕ) (w : width ≡ width_of kind) where
        pub end_fits : Fits w64 (due + get_or rows e 0 * width)
        end_fits = record { fits = omega (arith, span_most kind width w, has.small.few) }

        pub end_near : due + get_or rows e 0 * width ≤ most_first + (e + 1) * (most_bytes * most_width)
        end_near = omega (arith, span_most kind width w)

  -- ---- and it is the next that the definition has
  module _ (due : ℕ) (d : due ≡ due_in f kinds rows e) where
    pub next_put : (s t u : List ℕ) → t ≡ put_entries f s kinds rows e → u ≡ put_entry f t e (get_or kinds e 0) due (get_or rows e 0) → u ≡ put_entries f s kinds rows (e + 1)
    unfolding put_entries
    next_put s t u p q = q ∙ rw (p, d, add-one e)

    pub next_due : (width : ℕ) → width ≡ width_of (get_or kinds e 0) → due + get_or rows e 0 * width ≡ due_in f kinds rows (e + 1)
    unfolding due_in
    next_due width w = rw (d, w, add-one e)

  pub all_put : (s t : List ℕ) → t ≡ put_entries f s kinds rows e → e ≤ f.kinds → f.kinds ≤ e → t ≡ put_entries f s kinds rows f.kinds
  all_put s t p l h = p ∙ ap (put_entries f s kinds rows) (omega arith)
