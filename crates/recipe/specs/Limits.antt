-- The limits between a sorting recipe's channels, and how they are held.
use Rattle.std.specs.Prelude.{ℕ, ◌-◌, Bool, cond, List, ◌++◌, length, replicate, Some, None, Option}
use Rattle.recipe.specs.Ranges.{within}

-- the greatest number of limits
abbrev pub most_limits : ℕ
most_limits = 6

-- six places: the limits in front, and zeros behind them
abbrev pub held_in_place : List ℕ → List ℕ
held_in_place ps = ps ++ replicate (most_limits - length ps) 0

-- there are from one to six limits
abbrev pub count_in_range : List ℕ → Bool
count_in_range ps = within (length ps) 1 most_limits

-- the limits, or none where there are not so many
abbrev pub limits_checked : List ℕ → Option (List ℕ)
limits_checked ps = cond (count_in_range ps) (Some ps) None
