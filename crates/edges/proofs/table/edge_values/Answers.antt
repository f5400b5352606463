use Rattle.std.proofs.Common.{◌≡◌, suc, ◌+◌, ◌≤◌, min, ℤ, pos, negsuc, ◌+ℤ◌, ◌-ℤ◌, nat_abs, refl, ap, ◌∙◌, arith}
use lib.Count.{ones, ones_in}
use Rattle.std.proofs.lemmas.Int.{ints}
use Rattle.weight.specs.Range.{cut}
use Rattle.weight.specs.Rounding.{rounding}
use Rattle.scale.specs.Conversion.{converted, last_code}
use Rattle.board.specs.Outputs.{refuses}
use Rattle.edges.specs.Edges.{ConverterEdges}
use Rattle.edges.proofs.table.edge_values.Goals as goal

-- a code inside the ends counts as it is
inside : (z : ℤ) → nat_abs z ≤ last_code → cut last_code z ≡ z
inside (pos n) h = grind arith
inside (negsuc n) h = let e : min (suc n) last_code ≡ suc n = grind arith in rw e

above : (z d : ℤ) → nat_abs z + 5 ≤ last_code → nat_abs d ≤ 5 → cut last_code (z +ℤ d) -ℤ z ≡ d
above z d h k = ap (λ x. x -ℤ z) (inside (z +ℤ d) (search (arith, ints))) ∙ omega (arith, ints)

codes : (z r : ℤ) → nat_abs z + 5 ≤ last_code → ConverterEdges z r
unfolding converted rounding
codes z r h = record {
  five_above = rw (above z (pos 5) h (omega arith));
  four_above = rw (above z (pos 4) h (omega arith));
  five_below = rw (above z (negsuc 4) h (omega arith));
}

pub returns : goal.returns
unfolding rounding refuses ones ones_in
returns c = record {
  converter = codes;
  smoothing = record { above = refl; below = refl };
  board = record { two_accepted = refl; two_stand = refl; three_refused = refl; three_trip = refl };
}
