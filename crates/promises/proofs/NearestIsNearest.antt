-- `nearest` is what "nearest" means, and nothing else is. Assumes nothing.
use mathlib.Core.Path.{◌≡◌, sym, ap, ◌∙◌}
use Prim.Native.Nat.{ℕ, suc, ◌+◌, ◌*◌, ◌<◌}
use native.Mathlib.Nat.{add-mul}
use native.Mathlib.Decide.{dec_lt}
use native.Mathlib.Omega.{arith}
use lib.IntN.{ℤ, pos, negsuc, neg_ℤ, nat_abs, ◌-ℤ◌, neg_ℤ-neg_ℤ}
use Rattle.rounding.specs.Nearest.{with_sign, nearest_size, nearest}
use Rattle.rounding.proofs.Sizes.{size_minus}
use Rattle.rounding.proofs.Rounding.{is_nearest, only-nearest}
use Rattle.rounding.proofs.Apart.{apart, far, mirrored}
use Rattle.promises.specs.Meaning.{Nearest}

-- ---- both signs alike
mirror : {n r : ℤ} {d : ℕ} → Nearest n d r → Nearest (neg_ℤ n) d (neg_ℤ r)
mirror {n} {r} {d} h =
    let e = mirrored n r d in
    record {
      near = rw e h.near;
      half = λ q. rw (size_minus n, size_minus r) (h.half (ap (λ (x : ℕ). 2 * x) (sym e) ∙ q));
    }

-- ---- it is nearest
of_size : (n d : ℕ) → 0 < d → Nearest (pos n) d (pos (nearest_size n d))
of_size n d h =
    let k = nearest_size n d in
    let e = apart (k * d) n in
    let known = is_nearest n d h in
    record { near = omega (arith, e, known.low, known.high); half = λ q. omega (arith, e, known.low, known.high) }

pub nearest_is_nearest : (n : ℤ) (d : ℕ) → 0 < d → Nearest n d (nearest n d)
unfolding nearest with_sign
nearest_is_nearest (pos n) d h = of_size n d h
nearest_is_nearest (negsuc n) d h = mirror (of_size (suc n) d h)

-- ---- nothing else is
only_size : (n d : ℕ) (r : ℤ) → 0 < d → Nearest (pos n) d r → r ≡ pos (nearest_size n d)
only_size n d (pos k) h p = ap pos (sym (only-nearest (record { low = omega (arith, apart (k * d) n, p.near); high = high (dec_lt (2 * nat_abs (pos (k * d) -ℤ pos n)) d) })))
  where
    high : Dec (2 * nat_abs (pos (k * d) -ℤ pos n) < d) → 2 * n < 2 * (k * d) + d
    high (yes l) = omega (arith, apart (k * d) n, l)
    high (no l) = let e : 2 * nat_abs (pos (k * d) -ℤ pos n) ≡ d = omega (arith, p.near) in omega (arith, p.half e)
only_size n d (negsuc k) h p = absurd (omega (arith, far (suc k * d) n, p.near, add-mul k 1 d))

pub only_the_nearest : (n : ℤ) (d : ℕ) (r : ℤ) → 0 < d → Nearest n d r → r ≡ nearest n d
unfolding nearest with_sign
only_the_nearest (pos n) d r h p = only_size n d r h p
only_the_nearest (negsuc n) d r h p = sym (neg_ℤ-neg_ℤ r) ∙ ap neg_ℤ (only_size (suc n) d (neg_ℤ r) h (mirror p))
