-- What a store keeps, and what each call leaves of it. Weights stand oldest first.
use Rattle.std.specs.Prelude.{ℕ, ◌-◌, ◌≤◌, List, [], ◌∷◌, ◌++◌, length, drop, ℤ}

-- the last n of a list, or all of them where there are fewer
abbrev pub newest_of : {X : Type 0} → ℕ → List X → List X
newest_of n xs = drop (length xs - n) xs

-- one more, put last, and the oldest beyond the places dropped
abbrev pub added : {X : Type 0} → ℕ → List X → X → List X
added places kept x = newest_of places (kept ++ x ∷ [])

-- The kept weights, and the number of places, which never changes.
pub record Kept : Type 0 where
  pub weights : List ℤ
  pub places : ℕ

-- a store has at least one place
abbrev pub HasPlaces : Kept → Type 0
HasPlaces k = 1 ≤ k.places

abbrev pub weights_of : Kept → List ℤ
weights_of k = k.weights

-- after adding a weight at a tick
abbrev pub after_add : Kept → ℤ → ℕ → Kept
after_add k w tick = record { weights = added k.places k.weights w; places = k.places }

-- after emptying
abbrev pub after_clear : Kept → Kept
after_clear k = record { weights = []; places = k.places }

-- nothing, over n places
abbrev pub none_of : ℕ → Kept
none_of n = record { weights = []; places = n }
