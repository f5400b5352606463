-- Items on the belt: which of them count, which channel each goes to, and what each weighs.
use Rattle.std.specs.Prelude.{◌≡◌, ℕ, ◌+◌, ◌-◌, ◌*◌, ◌≤◌, Bool, true, cond, not, ◌&&◌, List, [], ◌∷◌, length, ℤ, pos, ◌*ℤ◌, ◌≤ℤ◌, ◌<ℤ◌, Some, None, Decides, Option, ◌==◌, int_le, int_lt, nat_le, slice_index, unsigned_abs}
use Rattle.std.specs.List.{prefix_len}
use Rattle.weight.specs.Range.{most}
use Rattle.weight.specs.Rounding.{rounding}
use Rattle.recipe.specs.Ranges.{within, longest}
use Rattle.recipe.specs.Limits.{most_limits}
use Rattle.recipe.specs.Sorts.{SortValues}

-- An item of the weight X counts exactly when Z < X ≤ 999,999.
abbrev pub item_counts : ℕ → ℤ → Bool
item_counts zone x = int_lt (pos zone) x && int_le x (pos most)

-- from channel k on: the channel of the first limit that lies above X, or the one after the last limit
abbrev pub channel_from : ℕ → List ℕ → ℤ → ℕ
channel_from k [] x = k
channel_from k (p ∷ ps) x = cond (int_lt x (pos p)) k (channel_from (k + 1) ps x)

-- The channel of X.
abbrev pub channel_of : List ℕ → ℤ → ℕ
channel_of limits x = channel_from 1 limits x

-- how many limits X reaches, up to the first that lies above it
abbrev pub reached : List ℕ → ℤ → ℕ
reached limits x = prefix_len (λ p. not (int_lt x (pos p))) limits

-- A weight lies within the bounds of channel k: as X it counts and falls to that channel.
abbrev pub lies_within : SortValues → ℕ → ℤ → Bool
lies_within v k x = item_counts v.zone x && channel_of v.limits x == k

-- The channel of an item, or none where it does not count.
abbrev pub channel_answer : SortValues → ℤ → Option ℕ
channel_answer v x = cond (item_counts v.zone x) (Some (channel_of v.limits x)) None

-- the limit Pk
abbrev pub limit_at : List ℕ → ℕ → ℕ
limit_at limits k = slice_index limits (k - 1)

-- Channel 1 is X < P1, channel k is P(k−1) ≤ X < Pk, and channel N + 1 is X ≥ PN.
pub record BetweenLimits (limits : List ℕ) (k : ℕ) (x : ℤ) : Type 0 where
  pub first : 1 ≤ k
  pub last : k ≤ length limits + 1
  pub from : 2 ≤ k → pos (limit_at limits (k - 1)) ≤ℤ x
  pub below : k ≤ length limits → x <ℤ pos (limit_at limits k)

-- The bounds of channel k in the words of the limits: X counts and lies between the channel's limits.
abbrev pub WithinLimits : SortValues → ℕ → ℤ → Type 0
WithinLimits v k x = (item_counts v.zone x ≡ true) × BetweenLimits v.limits k x

-- The channel that is found is the one within whose bounds the weight lies, by the definition and by the limits.
pub record FoundChannel (v : SortValues) (x : ℤ) (found : Option ℕ) : Type 0 where
  pub within : (k : ℕ) → Decides (lies_within v k x) (found ≡ Some k)
  pub bounds : (k : ℕ) → found ≡ Some k → WithinLimits v k x
  pub alone : (k : ℕ) → WithinLimits v k x → found ≡ Some k

-- channels go from 1 to 7
abbrev pub ChannelInRange : Option ℕ → Type 0
ChannelInRange (Some k) = (1 ≤ k) × (k ≤ most_limits + 1)
ChannelInRange None = Unit {0}

-- a correction is in parts of 10,000: hundredths of a percent
abbrev pub parts : ℕ
parts = 10000

-- The weight X of an item of n readings with that sum, corrected by c parts, and rounded once.
abbrev pub item_weight : ℤ → ℕ → ℕ → ℤ
item_weight sum n c = rounding (sum *ℤ pos (parts + c)) (parts * n)

-- the greatest number of readings of one item: one a tick, for the longest time
abbrev pub most_readings : ℕ
most_readings = longest

-- an item can have n readings with that sum: from 1 to 65,535 weights
abbrev pub can_sum : ℤ → ℕ → Bool
can_sum sum n = within n 1 most_readings && nat_le (unsigned_abs sum) (most * n)

-- X, or none where no item has such readings
abbrev pub item_weight_answer : ℕ → ℤ → ℕ → Option ℤ
item_weight_answer c sum n = cond (can_sum sum n) (Some (item_weight sum n c)) None
