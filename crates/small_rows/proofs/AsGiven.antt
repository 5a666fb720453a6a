-- What a test says of a figure as a function was given it, it says of the figure itself: f is what the code found. Assumes nothing.
use mathlib.Core.Path.{◌≡◌, ◌∙◌}
use mathlib.Core.Bool.{Bool, ◌||◌}
use Prim.Native.Nat.{◌<◌, ◌^◌}
use lib.IntN.{ℤ}
use lib.Signed.{mag}
use mir.Syntax.{w32}
use mir.Val.{to_z, of_z, hbits}
use mir.Facts.{to_z-of_z}
use borrow.Author.Rules.{sfits_of}
use Rattle.refusals.specs.Tests.{in_range}
use Rattle.rules.specs.Limits.{rises}
use Rattle.small_rows.specs.SmallRows.{zero_where}

-- a word as it is read
pub read : {x y : ℤ} → mag x < 2 ^ hbits w32 → x ≡ y → to_z w32 (of_z w32 x) ≡ y
read e h = to_z-of_z {w = w32} (sfits_of {w = w32} e) ∙ h

-- a test that counts where a does not hold
pub either : (a f t : Bool) → f ≡ t → a || f ≡ a || t
either a f t h = rw h

module _ (f : Bool) (x : ℤ) (e : mag x < 2 ^ hbits w32) where
  pub ranged : (least most : ℤ) → f ≡ in_range least (to_z w32 (of_z w32 x)) most → f ≡ in_range least x most
  ranged least most h = h ∙ rw (to_z-of_z (sfits_of e))

  pub zeroed : (first : Bool) → f ≡ zero_where first (to_z w32 (of_z w32 x)) → f ≡ zero_where first x
  zeroed first h = h ∙ rw (to_z-of_z (sfits_of e))

  pub risen : (last : Bool) (next least most : ℤ) → mag next < 2 ^ hbits w32 → f ≡ rises (to_z w32 (of_z w32 x)) (to_z w32 (of_z w32 next)) least most → last || f ≡ last || rises x next least most
  risen last next least most n h = either last f _ (h ∙ rw (to_z-of_z (sfits_of e), to_z-of_z (sfits_of n)))
