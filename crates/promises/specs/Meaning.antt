-- What "nearest" and "a half" mean, apart from how they are worked.
use Rattle.std.specs.Prelude.{◌≡◌, Bool, true, false, ℕ, ◌*◌, ◌%◌, ◌≤◌, ℤ, pos, nat_abs, ◌-ℤ◌, ◌*ℤ◌}

-- r is the whole number nearest to n/d, and of two that are equally near the one away from zero. For d above 0: r·d lies within half of d of n; and where it lies a half of d away, it is no nearer to zero than n is.
pub record Nearest (n : ℤ) (d : ℕ) (r : ℤ) : Type 0 where
  pub near : 2 * nat_abs (r *ℤ pos d -ℤ n) ≤ d
  pub half : 2 * nat_abs (r *ℤ pos d -ℤ n) ≡ d → nat_abs n ≤ nat_abs r * d

-- n/d is a half: twice n/d is a whole number, and odd. For d above 0, `twice` is that number.
pub record Halfway (n : ℤ) (d : ℕ) : Type 0 where
  pub twice : ℤ
  pub whole : pos 2 *ℤ n ≡ twice *ℤ pos d
  pub odd : nat_abs twice % 2 ≡ 1

-- r is a whole number nearest to n/d, whichever way a half is sent: r·d lies within half of d of n. There are two such numbers where n/d is a half, and else one.
abbrev pub AsNear : ℤ → ℕ → ℤ → Type 0
AsNear n d r = 2 * nat_abs (r *ℤ pos d -ℤ n) ≤ d

-- A rounding's mark says "whether" its "exact value was a half": yes exactly where n/d, the exact value, is one.
pub record Marks (mark : Bool) (n : ℤ) (d : ℕ) : Type 0 where
  pub where_yes : mark ≡ true → Halfway n d
  pub where_no : mark ≡ false → Halfway n d → ⊥
