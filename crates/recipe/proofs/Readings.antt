-- How large the numbers of an item's weight can be.
use Rattle.std.proofs.Common.{◌≡◌, ℕ, ◌+◌, ◌*◌, ◌≤◌, true, ℤ, pos, negsuc, ◌*ℤ◌, nat_abs, arith}
use Rattle.std.proofs.lemmas.Int.{ints}
use Rattle.std.proofs.lemmas.Nat.{mul-le}
use Rattle.std.proofs.lemmas.Bool.Decides.{nat_tests}
use Rattle.weight.specs.Range.{most}
use Rattle.weight.proofs.Laws.{rounding-le}
use Rattle.recipe.specs.Items.{can_sum, item_weight, most_readings, parts}
use Rattle.recipe.specs.Sorts.{most_correction}

product_size : (p : ℤ) (m : ℕ) → nat_abs (p *ℤ pos m) ≡ nat_abs p * m
product_size (pos n) m = grind (arith, ints)
product_size (negsuc n) m = grind (arith, ints)

module _ (sum : ℤ) (n c : ℕ) (can : can_sum sum n ≡ true) (few : c ≤ most_correction) where
  -- the corrected sum, in parts
  corrected_le : nat_abs sum * (parts + c) ≤ most * n * 10200
  corrected_le = mul-le (nat_abs sum) (parts + c) (most * n) 10200 (grind (arith, nat_tests)) (omega arith)

  pub corrected_small : nat_abs sum * (parts + c) ≤ most * most_readings * 10200
  corrected_small = grind (arith, nat_tests, corrected_le)

  -- the weight is little more than the largest
  pub weight_small : nat_abs (item_weight sum n c) ≤ 1019999
  weight_small = rounding-le (sum *ℤ pos (parts + c)) (parts * n) 1019999 (grind (arith, nat_tests)) (omega (arith, corrected_le, product_size sum (parts + c)))
