-- The bodies of two kinds lie apart: of one the other ends where it starts, or before. Assumes nothing.
use mathlib.Core.Path.{◌≡◌, refl, sym, ap, ◌∙◌}
use mathlib.Core.Logic.{◌⊎◌, inl, inr}
use mathlib.Core.List.{List}
use Prim.Native.Nat.{ℕ, suc, ◌+◌, ◌*◌, ◌-◌, ◌<◌, ◌≤◌}
use native.Mathlib.Decide.{dec_lt}
use native.Mathlib.Omega.{arith}
use Rattle.entries.specs.Layout.{last_kind, width_of}
use Rattle.entries.specs.Entries.{kind_at, start_at, rows_at, span_at, due_at, form_of, kinds_of, the_entry, start_of, rows_of}
use Rattle.contents.specs.Contents.{contents_of}
use Rattle.contents.proofs.Passing.{passed, its_entry, due_rises, there}

module _ (s : List ℕ) (z : (contents_of s).number ≡ 0) where
  -- the body of an earlier entry ends where a later one starts, or before
  earlier : (e g : ℕ) → e < g → g < kinds_of s → start_at (form_of s) s e + span_at (form_of s) s e ≤ start_at (form_of s) s g
  earlier e g l h =
      let p = (passed s z).by in
      let next : due_at (form_of s) s (suc e) ≡ due_at (form_of s) s e + span_at (form_of s) s e = unfold due_at in refl in
      let on : g - suc e + suc e ≡ g = omega arith in
      omega (arith, (p.entries e (omega arith)).start, (p.entries g h).start, next, rw on at (due_rises (form_of s) s (suc e) (g - suc e)))

  module _ (k l : ℕ) (k-least : 1 ≤ k) (k-most : k ≤ last_kind) (l-least : 1 ≤ l) (l_most : l ≤ last_kind) (other : k ≡ l → ⊥) where
    pub bodies_apart : (start_of s k + rows_of s k * width_of k ≤ start_of s l) ⊎ (start_of s l + rows_of s l * width_of l ≤ start_of s k)
    unfolding start_of rows_of
    bodies_apart = by_order (the_entry s k) (the_entry s l) (its_entry s z k k-least (there s z k k-least k-most)) (its_entry s z l l-least (there s z l l-least l_most))
      where
        by_order : (e g : ℕ) → (e < kinds_of s) × (kind_at (form_of s) s e ≡ k) → (g < kinds_of s) × (kind_at (form_of s) s g ≡ l)
            → (start_at (form_of s) s e + rows_at (form_of s) s e * width_of k ≤ start_at (form_of s) s g) ⊎ (start_at (form_of s) s g + rows_at (form_of s) s g * width_of l ≤ start_at (form_of s) s e)
        by_order e g p q = pick (dec_lt e g) (dec_lt g e)
          where
            pick : Dec (e < g) → Dec (g < e) → (start_at (form_of s) s e + rows_at (form_of s) s e * width_of k ≤ start_at (form_of s) s g) ⊎ (start_at (form_of s) s g + rows_at (form_of s) s g * width_of l ≤ start_at (form_of s) s e)
            pick (yes a) b = inl (rw p.1 at (earlier e g a q.0))
            pick (no a) (yes b) = inr (rw q.1 at (earlier g e b p.0))
            pick (no a) (no b) = let same : e ≡ g = omega arith in absurd (other (sym p.1 ∙ ap (kind_at (form_of s) s) same ∙ q.1))
