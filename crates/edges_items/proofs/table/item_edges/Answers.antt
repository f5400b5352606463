use Rattle.std.proofs.Common.{refl}
use Rattle.weight.specs.Rounding.{rounding}
use Rattle.edges_items.proofs.table.item_edges.Goals as goal

pub returns : goal.returns
unfolding rounding
returns c = record {
  channels = λ c. record { at_zone = refl; above_zone = refl; below_first = refl; at_first = refl; at_second = refl };
  weights = record { half = refl; corrected = refl };
}
