-- The whole number nearest to a quotient, halves away from zero.
use Rattle.std.specs.Prelude.{◌≡◌, ℕ, ◌*◌, ◌≤◌, cond, ℤ, pos, negsuc, ◌+ℤ◌, ◌-ℤ◌, ◌*ℤ◌, int_div, int_rem, nat_lt, unsigned_abs}

-- one step away from zero, on the side of p
abbrev pub outward : ℤ → ℤ
outward (pos n) = pos 1
outward (negsuc n) = negsuc 0

-- what rounding adds to the quotient toward zero: nothing where the remainder is below half of q, else one step away from zero
abbrev pub correction : ℤ → ℕ → ℤ
correction p q = cond (nat_lt (2 * unsigned_abs (int_rem p (pos q))) q) (pos 0) (outward p)

-- p ÷ q, rounded
unfoldable pub rounding : ℤ → ℕ → ℤ
rounding p q = int_div p (pos q) +ℤ correction p q

-- r is the whole number nearest to p ÷ q, and of two that are equally near the one further from zero
pub record Nearest (p : ℤ) (q : ℕ) (r : ℤ) : Type 0 where
  pub near : 2 * unsigned_abs (p -ℤ (r *ℤ pos q)) ≤ q
  pub half : 2 * unsigned_abs (p -ℤ (r *ℤ pos q)) ≡ q → unsigned_abs p ≤ unsigned_abs r * q
