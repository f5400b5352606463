-- The ranges of a recipe's numbers.
use Rattle.std.specs.Prelude.{ℕ, Bool, ◌&&◌, List, nat_le}
use Rattle.std.specs.List.{list_all}

-- n lies from the least to the greatest
abbrev pub within : ℕ → ℕ → ℕ → Bool
within n least greatest = nat_le least n && nat_le n greatest

-- no number is above the greatest
abbrev pub every_up_to : ℕ → List ℕ → Bool
every_up_to greatest ns = list_all (λ n. nat_le n greatest) ns

-- the longest time, in ticks
abbrev pub longest : ℕ
longest = 65535
