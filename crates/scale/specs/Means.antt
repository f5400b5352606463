-- The mean of weights in the range is in the range.
use Rattle.std.specs.Prelude.{ℕ, suc, ◌+◌, ◌*◌, ◌≤◌, List, [], ◌∷◌, length, ℤ, pos, ◌+ℤ◌, fold, slice_index_or, unsigned_abs}
use Rattle.std.proofs.Common.{arith}
use Rattle.std.proofs.lemmas.Int.{ints}
use Rattle.weight.specs.Range.{InRange, most}
use Rattle.weight.proofs.Laws.{rounding-le}
use Rattle.scale.specs.Figures.{total}
use Rattle.scale.specs.Kinds.{mean}

total_size : (a : ℤ) (ws : List ℤ) → ((k : ℕ) → InRange (slice_index_or ws k (pos 0))) → unsigned_abs (fold ◌+ℤ◌ a ws) ≤ unsigned_abs a + most * length ws
total_size a [] h = omega arith
total_size a (w ∷ ws) h =
    let b : unsigned_abs w ≤ most = h 0 in
    let s : unsigned_abs (a +ℤ w) ≤ unsigned_abs a + unsigned_abs w = sum_size a w in
    let i = total_size (a +ℤ w) ws (λ k. h (suc k)) in
    omega (arith, i)
  where
    sum_size : (a b : ℤ) → unsigned_abs (a +ℤ b) ≤ unsigned_abs a + unsigned_abs b
    sum_size a b = search (arith, ints)

pub mean_ranged : (ws : List ℤ) → ((k : ℕ) → InRange (slice_index_or ws k (pos 0))) → InRange (mean ws)
mean_ranged [] h = omega arith
mean_ranged (w ∷ ws) h = rounding-le (total (w ∷ ws)) (length (w ∷ ws)) most (omega arith) (omega (arith, total_size (pos 0) (w ∷ ws) h))
