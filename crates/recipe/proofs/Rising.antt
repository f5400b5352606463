-- What a rising chain says from a limit on.
use Rattle.std.proofs.Common.{◌≡◌, ℕ, ◌+◌, ◌<◌, ◌≤◌, ◌&&◌, ltb, leb, List, length, get_or, drop}
use Rattle.std.proofs.lemmas.List.{at_drop_more, at_drop_all}
use Rattle.weight.specs.Range.{most}
use Rattle.recipe.specs.Sorts.{rising}

-- one limit on
pub rising_step : (below i : ℕ) (ps : List ℕ) → i < length ps → rising below (drop i ps) ≡ (ltb below (get_or ps i 0) && rising (get_or ps i 0) (drop (i + 1) ps))
rising_step below i ps h = at_drop_more (rising below) ps i 0 h

-- after the last limit
pub rising_end : (below i : ℕ) (ps : List ℕ) → length ps ≤ i → rising below (drop i ps) ≡ leb below most
rising_end below i ps h = at_drop_all (rising below) ps i h
