-- A float is answered as the count n exactly where n is within ±2,147,483,647 and the float equals n's own, as IEEE 754 compares; so −0, which equals 0, is 0. Assumes nothing.
use mathlib.Core.Path.{◌≡◌, refl, sym, ap, ◌∙◌, subst}
use mathlib.Core.Bool.{Bool, true, false, ◌&&◌, ◌||◌, beq, cond}
use Prim.Native.Nat.{ℕ, zero, suc, ◌*◌, ◌/◌, ◌%◌, ◌≤◌, ◌<◌}
use native.Mathlib.Nat.{mod-one, div-one, mul-one, mul_right_comm, zero-mul, zero-mod, zero-div, mul-pos, eq_of_mul-eq-mul_right, div-add-mod'}
use native.Mathlib.Omega.{arith}
use lib.Dec.{T, leb, eqb, lit≤, eqb→eq, leb→le}
use lib.IntN.{ℤ, pos, negsuc, nat_abs}
use lib.Ieee.{Float, nan, inf, fin, binary64, up, down, round, of_int, to_bits, eq}
use lib.Ieee.Fits.{down_pos, and_i, and_l, and_r, eq→eqb}
use lib.Ieee.Back.{round_whole}
use lib.Ieee.Exact.{HasValue}
use borrow.Author.Tests.{le-leb}
use Rattle.std.specs.Prelude.{Some, None}
use Rattle.counts.specs.Whole.{most_count, float, signed, whole_nat, whole_of}
use Rattle.counts.specs.Meaning.{IsCount, Exactly}
use Rattle.counts.proofs.Pattern.{valued}

plain : (s : Bool) (m : ℕ) → m ≤ most_count → whole_nat s m 1 ≡ Some (signed s m)
plain s m h = rw (mod-one m, div-one m, le-leb m most_count h)

-- each count is the count of its own float
pub own_float : (n : ℤ) → nat_abs n ≤ most_count → whole_of (of_int binary64 n) ≡ Some n
unfolding of_int
own_float (pos m) h = valued (round binary64 false m 1) false m 1 (lit≤ tt) (round_whole binary64 false m (omega arith)) ∙ plain false m h
own_float (negsuc k) h = valued (round binary64 true (suc k) 1) true (suc k) 1 (lit≤ tt) (round_whole binary64 true (suc k) (omega arith)) ∙ plain true (suc k) h

-- ---- a float that has a count's value equals that count's float
or_l : (a b : Bool) → T a → T (a || b)
or_l true b t = tt
or_l false b t = absurd t

or_r : (a b : Bool) → T b → T (a || b)
or_r true b t = tt
or_r false b t = t

-- m·2ᵉ is q: then it equals each float y of the value q, where the signs s and t agree, and at 0 whatever they are
equals : (s : Bool) (m : ℕ) (e : ℤ) (q : ℕ) (t : Bool) (y : Float) → m * up e ≡ q * down e → HasValue y t q 1
    → (T (beq s t) → T (eq (fin s m e) y)) × (q ≡ 0 → T (eq (fin s m e) y))
unfolding eq
equals s m e q t nan h v = absurd v
equals s m e q t (inf u) h v = absurd v
equals s m e q t (fin u k f) h v =
    let a : m * up e * down f ≡ k * up f * down e = rw h (mul_right_comm q (down e) (down f) ∙ ap (λ (n : ℕ). n * down e) (sym v.1 ∙ mul-one (k * up f))) in (
      λ b. and_i (eqb (m * up e * down f) (k * up f * down e)) (beq s u || eqb (m * up e * down f) 0) (eq→eqb a) (or_l (beq s u) (eqb (m * up e * down f) 0) (rw v.0 b)),
      λ z.
          let w : m * up e * down f ≡ 0 = rw (h, z, zero-mul (down e), zero-mul (down f)) in
          and_i (eqb (m * up e * down f) (k * up f * down e)) (beq s u || eqb (m * up e * down f) 0) (eq→eqb a) (or_r (beq s u) (eqb (m * up e * down f) 0) (eq→eqb w)),
    )

of_signed : (s : Bool) (m : ℕ) (e : ℤ) (q : ℕ) → q ≤ most_count → m * up e ≡ q * down e → T (eq (fin s m e) (of_int binary64 (signed s q)))
unfolding of_int
of_signed false m e q g h = (equals false m e q false (round binary64 false q 1) h (round_whole binary64 false q (omega arith))).0 tt
of_signed true m e zero g h = (equals true m e zero false (round binary64 false 0 1) h (round_whole binary64 false 0 (lit≤ tt))).1 refl
of_signed true m e (suc k) g h = (equals true m e (suc k) true (round binary64 true (suc k) 1) h (round_whole binary64 true (suc k) (omega arith))).0 tt

size_of_lem : (s : Bool) (q : ℕ) → nat_abs (signed s q) ≡ q
size_of_lem false q = refl
size_of_lem true zero = refl
size_of_lem true (suc k) = refl

-- ---- what is answered as a count is that count
pub only : (x : Float) (n : ℤ) → whole_of x ≡ Some n → (nat_abs n ≤ most_count) × T (eq x (of_int binary64 n))
unfolding whole_of
only nan n h = let z : ◌≡◌ {A = ℕ} 0 1 = cc in absurd (omega arith)
only (inf s) n h = let z : ◌≡◌ {A = ℕ} 0 1 = cc in absurd (omega arith)
only (fin s m e) n h = go (eqb (m * up e % down e) 0 && leb (m * up e / down e) most_count) refl h
  where
    q : ℕ
    q = m * up e / down e

    go : (b : Bool) → (eqb (m * up e % down e) 0 && leb q most_count) ≡ b → cond b (Some (signed s q)) None ≡ Some n → (nat_abs n ≤ most_count) × T (eq (fin s m e) (of_int binary64 n))
    go false t i = let z : ◌≡◌ {A = ℕ} 0 1 = cc in absurd (omega arith)
    go true t i =
        let tests : T (eqb (m * up e % down e) 0 && leb q most_count) = subst T (sym t) tt in
        let rest : m * up e % down e ≡ 0 = eqb→eq (m * up e % down e) 0 (and_l (eqb (m * up e % down e) 0) (leb q most_count) tests) in
        let small : q ≤ most_count = leb→le q most_count (and_r (eqb (m * up e % down e) 0) (leb q most_count) tests) in
        let is : signed s q ≡ n = cc in
        let value : m * up e ≡ q * down e = omega (arith, div-add-mod' (m * up e) (down e)) in
        (rw (← is, size_of_lem s q) small, rw (← is) (of_signed s m e q small value))

-- ---- each float that equals a count's float is answered as that count
-- a float that equals one of the value q has that value, with the same sign or at 0
back : (s : Bool) (m : ℕ) (e : ℤ) (q : ℕ) (t : Bool) (y : Float) → T (eq (fin s m e) y) → HasValue y t q 1
    → (m * up e * 1 ≡ q * down e) × T (beq s t || eqb q 0)
unfolding eq
back s m e q t nan h v = absurd v
back s m e q t (inf u) h v = absurd v
back s m e q t (fin u k f) h v =
    let same = eqb (m * up e * down f) (k * up f * down e) in
    let signs = beq s u || eqb (m * up e * down f) 0 in
    let a : m * up e * down f ≡ k * up f * down e = eqb→eq _ _ (and_l same signs h) in
    let c : k * up f * down e ≡ q * down e * down f = ap (λ (n : ℕ). n * down e) (sym (mul-one (k * up f)) ∙ v.1) ∙ mul_right_comm q (down f) (down e) in
    let d : m * up e ≡ q * down e = eq_of_mul-eq-mul_right (down f) (down_pos f) (m * up e) (q * down e) (a ∙ c) in
    let at_zero : T (eqb (m * up e * down f) 0) → q ≡ 0 = λ z. zero_of q (down e) (down f) (down_pos e) (down_pos f) (sym (a ∙ c) ∙ eqb→eq _ 0 z) in (
      mul-one (m * up e) ∙ d,
      pick (beq s u) (eqb (m * up e * down f) 0) (and_r same signs h) (λ b. or_l (beq s t) (eqb q 0) (rw v.0 at b)) (λ z. or_r (beq s t) (eqb q 0) (eq→eqb (at_zero z))),
    )
  where
    pick : {A : Type 0} (b c : Bool) → T (b || c) → (T b → A) → (T c → A) → A
    pick true c h l r = l h
    pick false c h l r = r h

    zero_of : (q d f : ℕ) → 0 < d → 0 < f → q * d * f ≡ 0 → q ≡ 0
    zero_of zero d f D F h = refl
    zero_of (suc k) d f D F h = let p : 0 < suc k * d * f = mul-pos (mul-pos {m = suc k} (omega arith) D) F in absurd (omega arith)

finish : (s t : Bool) (q : ℕ) → T (beq s t || eqb q 0) → signed s q ≡ signed t q
finish true true q h = refl
finish false false q h = refl
finish true false q h = rw (eqb→eq q 0 h)
finish false true q h = rw (eqb→eq q 0 h)

of : (x : Float) (t : Bool) (q : ℕ) → q ≤ most_count → T (eq x (round binary64 t q 1)) → whole_of x ≡ Some (signed t q)
unfolding eq
of nan t q g h = absurd h
of (inf s) t q g h = absurd (never s (round binary64 t q 1) h (round_whole binary64 t q (omega arith)))
  where
    never : (s : Bool) (y : Float) → T (eq (inf s) y) → HasValue y t q 1 → ⊥
    never s nan h v = v
    never s (inf u) h v = v
    never s (fin u k f) h v = h
of (fin s m e) t q g h =
    let b = back s m e q t (round binary64 t q 1) h (round_whole binary64 t q (omega arith)) in
    valued (fin s m e) s q 1 (lit≤ tt) (refl, b.0) ∙ plain s q g ∙ ap Some (finish s t q b.1)

pub every : (x : Float) (n : ℤ) → nat_abs n ≤ most_count → T (eq x (of_int binary64 n)) → whole_of x ≡ Some n
unfolding of_int
every x (pos m) g h = of x false m g h
every x (negsuc k) g h = of x true (suc k) g h

-- ---- both ways, in one statement
is_true : (b : Bool) → T b → b ≡ true
is_true true h = refl
is_true false h = absurd h

pub exactly : (x : Float) → Exactly x
exactly x = record {
  always = always;
  only = λ n e. ((only x n e).0, is_true (eq x (of_int binary64 n)) (only x n e).1);
  refused = λ e n h. never n e (always n h);
}
  where
    always : (n : ℤ) → IsCount x n → whole_of x ≡ Some n
    always n h = every x n h.0 (subst T (sym h.1) tt)

    never : (n : ℤ) → whole_of x ≡ None → whole_of x ≡ Some n → ⊥
    never n e f = let z : ◌≡◌ {A = ℕ} 0 1 = cc in omega arith

-- "−0 is 0."
pub minus_zero : (e : ℤ) → whole_of (fin true 0 e) ≡ Some (pos 0)
unfolding whole_of
minus_zero e = rw (zero-mul (up e), zero-mod (down e), zero-div (down e))

-- The count 0 as an f64 is +0: all its bits are 0.
pub plus_zero : to_bits binary64 (float (pos 0)) ≡ 0
unfolding to_bits of_int round
plus_zero = refl
