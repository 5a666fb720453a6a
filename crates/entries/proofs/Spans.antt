-- The words of a body: few enough to add up, and the next body is due where this one ends. Assumes nothing.
use mathlib.Core.Path.{◌≡◌}
use mathlib.Core.List.{List}
use Prim.Native.Nat.{ℕ, zero, suc, ◌+◌, ◌*◌, ◌<◌, ◌≤◌}
use native.Mathlib.Nat.{mul-le-mul_left}
use native.Mathlib.Numerals.{add-one}
use native.Mathlib.Omega.{arith}
use lib.Dec.{lit≤}
use Rattle.entries.specs.declared.Form.{Form}
use Rattle.entries.specs.Layout.{most_width, width_of}
use Rattle.entries.specs.Entries.{kind_at, rows_at, span_at, due_at}

pub width_small : (kind : ℕ) → width_of kind ≤ most_width
width_small zero = lit≤ tt
width_small (suc zero) = lit≤ tt
width_small (suc (suc zero)) = lit≤ tt
width_small (suc (suc (suc zero))) = lit≤ tt
width_small (suc (suc (suc (suc zero)))) = lit≤ tt
width_small (suc (suc (suc (suc (suc zero))))) = lit≤ tt
width_small (suc (suc (suc (suc (suc (suc zero)))))) = lit≤ tt
width_small (suc (suc (suc (suc (suc (suc (suc kind))))))) = lit≤ tt

pub span_small : (kind rows width : ℕ) → width ≡ width_of kind → rows < 4_294_967_296 → rows * width < 4_294_967_296 * most_width
span_small kind rows width e h = rw e (omega (arith, mul-le-mul_left rows (width_small kind)))

pub span_is : (f : Form) (s : List ℕ) (e kind rows width : ℕ) → kind ≡ kind_at f s e → rows ≡ rows_at f s e → width ≡ width_of kind → rows * width ≡ span_at f s e
span_is f s e kind rows width k r w = cc

pub due_next : (f : Form) (s : List ℕ) (e due span : ℕ) → due ≡ due_at f s e → span ≡ span_at f s e → due + span ≡ due_at f s (e + 1)
unfolding due_at
due_next f s e due span d p = rw add-one (cc)
