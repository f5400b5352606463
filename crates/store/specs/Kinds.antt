-- What the ring and the roll hold, and what is left of the weights of any store.
use Rattle.std.specs.Prelude.{◌≡◌, ℕ, List, map, length, drop, ℤ, Ok, Err, Result}
use Rattle.weight.specs.declared.fault.Fault.{Fault}
use Rattle.weight.specs.declared.fault.Fault.TheVariants.{NoPlaces}
use Rattle.store.specs.Kept.{Kept, HasPlaces, none_of, weights_of}
use Rattle.store.specs.Places.{oldest_first}
use Rattle.store.specs.Records.{weight_of}
use Rattle.store.specs.declared.record.Weight.{Weight}
use Rattle.store.specs.declared.slots.Records.{Records}
use Rattle.store.specs.declared.ring.Ring.{Ring}
use Rattle.store.specs.declared.roll.Roll.{Roll}
use Rattle.store.specs.declared.weights.Weights.{Weights}

-- the records that lie in some slots, oldest first
abbrev pub records_of : {X : Type 0} → Records X → List X
records_of r = oldest_first r.slots.now r.mark

-- the memory that the ring lies over
abbrev pub ring_memory : {X : Type 0} → Ring X → List X
ring_memory r = r.slots.now

-- its records, oldest first
abbrev pub ring_records : {X : Type 0} → Ring X → List X
ring_records r = oldest_first (ring_memory r) r.mark

-- the weights of its records; it has as many places as its memory has slots
abbrev pub ring_holds : {X : Type 0} → (X → ℤ) → Ring X → Kept
ring_holds weighs r = record { weights = map weighs (ring_records r); places = length (ring_memory r) }

-- A ring is made exactly where it has places. It keeps nothing, and leaves the memory as it was.
abbrev pub RingMade : {X : Type 0} → (X → ℤ) → List X → Result (Ring X) Fault → Type 0
RingMade weighs memory (Ok r) = HasPlaces (ring_holds weighs r) × (ring_memory r ≡ memory) × (ring_holds weighs r ≡ none_of (length memory))
RingMade weighs memory (Err f) = (length memory ≡ 0) × (f ≡ NoPlaces)

abbrev pub roll_places : ℕ
roll_places = 64

abbrev pub roll_records : Roll → List Weight
roll_records r = oldest_first r.slots r.mark

abbrev pub roll_holds : Roll → Kept
roll_holds r = record { weights = map weight_of (roll_records r); places = roll_places }

-- the weights that an iterator over a store has left
abbrev pub weights_left : {S : Type 0} → (S → Kept) → Weights S → List ℤ
weights_left holds w = drop w.next (weights_of (holds w.store.now))
