-- The values at the edges of the sorting rules, by the definitions that the calls' contracts cite.
use Rattle.std.specs.Prelude.{◌≡◌, ℕ, [], ◌∷◌, ℤ, pos, ◌+ℤ◌, Some, None, Ok, Err, Option, Result}
use Rattle.weight.specs.declared.fault.Fault.{Fault}
use Rattle.recipe.specs.Items.{channel_answer, item_weight_answer}
use Rattle.recipe.specs.Sorts.{SortValues}

-- a sorting recipe with zone 100 and the limits 250 and 750
abbrev pub example_sorting : ℕ → SortValues
example_sorting correction = record { zone = 100; limits = 250 ∷ 750 ∷ []; correction = correction; times = 0 ∷ 0 ∷ 0 ∷ 0 ∷ [] }

-- an item's weight on a recipe, or the recipe's refusal
abbrev pub weight_answer : Result SortValues Fault → ℤ → ℕ → Result (Option ℤ) Fault
weight_answer (Ok v) sum n = Ok (item_weight_answer v.correction sum n)
weight_answer (Err f) sum n = Err f

-- X 100 has no channel, 101 and 249 have channel 1, 250 has channel 2 and 750 has channel 3
pub record ChannelEdges (correction : ℕ) : Type 0 where
  pub at_zone : channel_answer (example_sorting correction) (pos 100) ≡ None
  pub above_zone : channel_answer (example_sorting correction) (pos 101) ≡ Some 1
  pub below_first : channel_answer (example_sorting correction) (pos 249) ≡ Some 1
  pub at_first : channel_answer (example_sorting correction) (pos 250) ≡ Some 2
  pub at_second : channel_answer (example_sorting correction) (pos 750) ≡ Some 3

-- gross 1,000 and 1,001 without correction weigh 1,001, and 1,000 with the correction 50 weighs 1,005
pub record WeightEdges : Type 0 where
  pub half : item_weight_answer 0 (pos 1000 +ℤ pos 1001) 2 ≡ Some (pos 1001)
  pub corrected : item_weight_answer 50 (pos 1000) 1 ≡ Some (pos 1005)

-- the whole table: the channels whatever the correction, and the weights
pub record ItemEdges : Type 0 where
  pub channels : (correction : ℕ) → ChannelEdges correction
  pub weights : WeightEdges
