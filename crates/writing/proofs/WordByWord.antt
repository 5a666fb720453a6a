-- A row written word after word, in the shape of the code: what each call left, against the definition. Assumes nothing.
use mathlib.Core.Path.{◌≡◌}
use mathlib.Core.List.{List}
use Prim.Native.Nat.{ℕ, ◌+◌, ◌*◌}
use lib.IntN.{ℤ}
use Rattle.words.specs.Words.{put_word}
use Rattle.entries.specs.Layout.{latitude, width_of}
use Rattle.rules.specs.declared.Figures.{Figures}
use Rattle.rules.specs.declared.Differences.{Differences}
use Rattle.writing.specs.Rows.{put_figures, put_differences}

module _ (b : List ℕ) (i : ℕ) (x y z : ℤ) (t₁ t₂ t₃ : List ℕ) where
  pub four_put : (f : Figures) (u : ℤ) (t₄ : List ℕ) → x ≡ f.y0 → y ≡ f.h → z ≡ f.v → u ≡ f.a
      → t₁ ≡ put_word b (width_of latitude * i + 1) x → t₂ ≡ put_word t₁ (width_of latitude * i + 3) y → t₃ ≡ put_word t₂ (width_of latitude * i + 5) z → t₄ ≡ put_word t₃ (width_of latitude * i + 7) u
      → t₄ ≡ put_figures b i f
  unfolding put_figures
  four_put f u t₄ ex ey ez eu p q r s = rw (s, r, q, p, ex, ey, ez, eu)

  pub three_put : (d : Differences) → x ≡ d.y → y ≡ d.h → z ≡ d.v
      → t₁ ≡ put_word b (width_of latitude * i + 2) x → t₂ ≡ put_word t₁ (width_of latitude * i + 4) y → t₃ ≡ put_word t₂ (width_of latitude * i + 6) z
      → t₃ ≡ put_differences b i d
  unfolding put_differences
  three_put d ex ey ez p q r = rw (r, q, p, ex, ey, ez)
