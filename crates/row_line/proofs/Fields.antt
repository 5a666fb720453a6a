-- The laws of the correction's line: the five numbers in turn, and what they ask. Assumes nothing.
use mathlib.Core.Path.{◌≡◌, refl, sym, ◌∙◌}
use mathlib.Core.Bool.{Bool, false, ◌&&◌}
use mathlib.Core.List.{List}
use Prim.Native.Nat.{ℕ}
use Rattle.std.specs.Prelude.{Option, Some, None, is_some, option_map, option_and_then}
use Rattle.fields.specs.declared.Field.{Field}
use Rattle.fields.specs.Fields.{field_at, last_at}
use Rattle.correct.specs.Correction.{figures, correction_of, corrected_of}
use Rattle.row_line.specs.declared.NewRow.{NewRow}
use Rattle.row_line.specs.RowLine.{asks, row_asked, number_of_row, sheet_of_row, number_by, sheet_by}

-- ---- the five in turn: m, y, h, v and a are what the code found
module _
    (line : List ℕ)
    (m y h v a : Option Field)
    (em : m ≡ field_at line 0)
    (ey : y ≡ option_and_then (λ f. field_at line f.next) m)
    (eh : h ≡ option_and_then (λ f. field_at line f.next) y)
    (ev : v ≡ option_and_then (λ f. field_at line f.next) h)
    (ea : a ≡ option_and_then (λ f. last_at line f.next) v)
  where
    abbrev found : Bool
    found = is_some m && is_some y && is_some h && is_some v && is_some a

    pub known : (i j k l n : Field) → m ≡ Some i → y ≡ Some j → h ≡ Some k → v ≡ Some l → a ≡ Some n → Some (asks i.value j.value k.value l.value n.value) ≡ row_asked line
    unfolding row_asked
    known i j k l n p q r s t =
        let y_is : field_at line i.next ≡ Some j = rw p at (sym ey ∙ q) in
        let h_is : field_at line j.next ≡ Some k = rw q at (sym eh ∙ r) in
        let v_is : field_at line k.next ≡ Some l = rw r at (sym ev ∙ s) in
        let a_is : last_at line l.next ≡ Some n = rw s at (sym ea ∙ t) in
        rw (← em, p, y_is, h_is, v_is, a_is)

    abbrev next : Option Field → Option Field
    next = option_and_then (λ f. field_at line f.next)

    abbrev last : Option Field → Option Field
    last = option_and_then (λ f. last_at line f.next)

    pub not_known : found ≡ false → None ≡ row_asked line
    unfolding row_asked
    not_known t = rw (← em) (by_m m (rw (ea, ev, eh, ey) at t))
      where
        by_a : (i j k l : Field) (o : Option Field) → is_some o ≡ false → None ≡ option_map (λ a. asks i.value j.value k.value l.value a.value) o
        by_a i j k l None e = refl
        by_a i j k l (Some n) e = cc

        by_v : (i j k : Field) (o : Option Field) → (is_some o && is_some (last o)) ≡ false → None ≡ option_and_then (λ v. option_map (λ a. asks i.value j.value k.value v.value a.value) (last_at line v.next)) o
        by_v i j k None e = refl
        by_v i j k (Some l) e = by_a i j k l (last_at line l.next) e

        by_h : (i j : Field) (o : Option Field) → (is_some o && is_some (next o) && is_some (last (next o))) ≡ false
            → None ≡ option_and_then (λ h. option_and_then (λ v. option_map (λ a. asks i.value j.value h.value v.value a.value) (last_at line v.next)) (field_at line h.next)) o
        by_h i j None e = refl
        by_h i j (Some k) e = by_v i j k (field_at line k.next) e

        by_y : (i : Field) (o : Option Field) → (is_some o && is_some (next o) && is_some (next (next o)) && is_some (last (next (next o)))) ≡ false
            → None ≡ option_and_then (λ y0. option_and_then (λ h. option_and_then (λ v. option_map (λ a. asks i.value y0.value h.value v.value a.value) (last_at line v.next)) (field_at line h.next)) (field_at line y0.next)) o
        by_y i None e = refl
        by_y i (Some j) e = by_h i j (field_at line j.next) e

        by_m : (o : Option Field) → (is_some o && is_some (next o) && is_some (next (next o)) && is_some (next (next (next o))) && is_some (last (next (next (next o))))) ≡ false
            → None ≡ option_and_then (λ minute. option_and_then (λ y0. option_and_then (λ h. option_and_then (λ v. option_map (λ a. asks minute.value y0.value h.value v.value a.value) (last_at line v.next)) (field_at line h.next)) (field_at line y0.next)) (field_at line minute.next)) o
        by_m None e = refl
        by_m (Some i) e = by_y i (field_at line i.next) e

-- ---- the correction that it asks for: r is the row that the code found
module _ (s line : List ℕ) (r : Option NewRow) (e : r ≡ row_asked line) where
  pub number_18 : r ≡ None → 18 ≡ number_by s line
  unfolding number_of_row
  number_18 t = rw (← e, t)

  pub sheet_18 : r ≡ None → s ≡ sheet_by s line
  unfolding sheet_of_row
  sheet_18 t = rw (← e, t)

  module _ (q : NewRow) (f : r ≡ Some q) where
    pub number_asked : (k : ℕ) → k ≡ correction_of s q.minute (figures q.y0 q.h q.v q.a) → k ≡ number_by s line
    unfolding number_of_row
    number_asked k h = rw (← e, f) h

    pub sheet_asked : (z : List ℕ) → z ≡ corrected_of s q.minute (figures q.y0 q.h q.v q.a) → z ≡ sheet_by s line
    unfolding sheet_of_row
    sheet_asked z h = rw (← e, f) h
