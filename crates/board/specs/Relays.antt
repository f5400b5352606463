-- Eight relays and the byte that they make: relay n is bit n.
use Rattle.std.specs.Prelude.{ℕ, ◌+◌, ◌/◌, ◌%◌, ◌^◌, Bool, false, cond, List, [], ◌∷◌, ◌==◌, slice_index_or}

-- Whether bit n of the byte is 1.
abbrev pub bit : ℕ → ℕ → Bool
bit b n = b / 2 ^ n % 2 == 1

-- Relay n is on where bit n is 1.
abbrev pub bits : ℕ → List Bool
bits b = bit b 0 ∷ bit b 1 ∷ bit b 2 ∷ bit b 3 ∷ bit b 4 ∷ bit b 5 ∷ bit b 6 ∷ bit b 7 ∷ []

-- What relay n adds to the byte: 2 ^ n where it is on.
abbrev pub worth_of : List Bool → ℕ → ℕ
worth_of rs n = cond (slice_index_or rs n false) (2 ^ n) 0

-- The byte that eight relays make.
abbrev pub byte_of : List Bool → ℕ
byte_of rs = worth_of rs 0 + worth_of rs 1 + worth_of rs 2 + worth_of rs 3 + worth_of rs 4 + worth_of rs 5 + worth_of rs 6 + worth_of rs 7
