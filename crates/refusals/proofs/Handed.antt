-- An error that `?` hands on is told as it was. Assumes nothing.
use mathlib.Core.Path.{◌≡◌, ap}
use Rattle.std.proofs.Common.{Result, Ok, Err}
use Rattle.std.specs.Result.{IsErrAnd}

pub handed : {A E T : Type 0} (told : Result A E → T) (r : Result A E) (e : E) → IsErrAnd r (λ x. x ≡ e) → told r ≡ told (Err e)
handed told (Err x) e h = ap (λ y. told (Err y)) h
handed told (Ok _) e h = elim h [ ]
