-- `Counted` holds of every float. Assumes nothing.
use mathlib.Core.Path.{◌≡◌, refl, ap}
use lib.IntN.{ℤ, pos}
use lib.Ieee.{Float}
use Rattle.std.specs.Prelude.{Option, Some, None}
use Rattle.counts.specs.Whole.{whole_of, number_of, value_of}
use Rattle.counts.proofs.Exactly.{exactly}
use Rattle.promises.specs.Counts.{Counted}

pub counted : (x : Float) → Counted x
counted x =
    record {
      a_count = λ n is. (ap number_of ((exactly x).always n is), ap value_of ((exactly x).always n is));
      no_count = λ none. refused (whole_of x) (λ n e. none n ((exactly x).only n e));
    }
  where
    refused : (w : Option ℤ) → ((n : ℤ) → w ≡ Some n → ⊥) → (number_of w ≡ 15) × (value_of w ≡ pos 0)
    refused (Some n) none = absurd (none n refl)
    refused None none = (refl, refl)
