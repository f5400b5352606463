-- Eight relays, one after another.
use Rattle.std.proofs.Common.{◌≡◌, ℕ, zero, suc, ◌+◌, ◌<◌, List, length, Bool, false, slice_index_or}
use Rattle.std.proofs.lemmas.List.FromFn.{fill_by_all}
use Rattle.board.specs.Relays.{bit, bits, worth_of}

-- they are the bits of a byte where each of them is
pub eight_bits : (rs : List Bool) (b : ℕ) → length rs ≡ 8 → ((k : ℕ) → k < 8 → slice_index_or rs k false ≡ bit b k) → rs ≡ bits b
eight_bits rs b whole set = fill_by_all (bit b) rs 8 false whole set

-- the byte that the first n relays make
abbrev pub byte_of_first : List Bool → ℕ → ℕ
byte_of_first rs zero = 0
byte_of_first rs (suc n) = byte_of_first rs n + worth_of rs n
