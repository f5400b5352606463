-- The range of weights.
use Rattle.std.specs.Prelude.{ℕ, suc, ◌≤◌, min, ℤ, pos, negsuc, neg_ℤ, unsigned_abs}

-- the largest weight
abbrev pub most : ℕ
most = 999999

-- a weight is a whole number from −999,999 to 999,999
abbrev pub InRange : ℤ → Type 0
InRange w = unsigned_abs w ≤ most

-- a number cut to the range from −m to m: one beyond it becomes the nearer end
abbrev pub cut : ℕ → ℤ → ℤ
cut m (pos n) = pos (min n m)
cut m (negsuc n) = neg_ℤ (pos (min (suc n) m))
