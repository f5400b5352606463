-- What is asked of a sorting recipe's numbers.
use Rattle.std.specs.Prelude.{◌≡◌, ℕ, Bool, cond, ◌&&◌, List, [], ◌∷◌, length, take, Some, None, Option, Ok, Err, Result, nat_le, nat_lt}
use Rattle.std.specs.Borrow.{Bor}
use Rattle.weight.specs.Range.{most}
use Rattle.weight.specs.declared.fault.Fault.{Fault}
use Rattle.weight.specs.declared.fault.Fault.TheVariants.{OutOfRange, Inconsistent}
use Rattle.recipe.specs.Ranges.{within, every_up_to, longest}
use Rattle.recipe.specs.Limits.{count_in_range, held_in_place}
use Rattle.recipe.specs.declared.draft.Sorting.{Sorting}
use Rattle.recipe.specs.declared.numbers.Limits.{Limits}

-- a sorting draft, which borrows its limits
abbrev pub SortDraft : Type 0
SortDraft = Sorting (Bor (List ℕ))

-- a recipe's numbers, with the limits in place
abbrev pub SortNumbers : Type 0
SortNumbers = Sorting Limits

-- what a sorting recipe says, wherever its limits are held
abbrev pub SortValues : Type 0
SortValues = Sorting (List ℕ)

-- the limits that are held: the places in use
abbrev pub limits_in_use : Limits → List ℕ
limits_in_use l = take l.count l.places

-- they are held in front of six places, with zeros behind them
abbrev pub HeldInPlace : List ℕ → Limits → Type 0
HeldInPlace ps l = (l.places ≡ held_in_place ps) × (l.count ≡ length ps)

abbrev pub draft_values : SortDraft → SortValues
draft_values d = record { zone = d.zone; limits = d.limits.now; correction = d.correction; times = d.times }

-- what numbers with the limits in place say
abbrev pub numbers_values : SortNumbers → SortValues
numbers_values n = record { zone = n.zone; limits = limits_in_use n.limits; correction = n.correction; times = n.times }

-- there are the times t0 to t3
abbrev pub sort_times : ℕ
sort_times = 4

-- the greatest correction, in hundredths of a percent
abbrev pub most_correction : ℕ
most_correction = 200

-- The number of limits, the correction and the times are in their ranges.
abbrev pub sort_in_range : SortValues → Bool
sort_in_range v = count_in_range v.limits && within v.correction 0 most_correction && every_up_to longest v.times

-- the same numbers, or none where one is out of its range
abbrev pub numbers_in_range : SortValues → Option SortValues
numbers_in_range v = cond (sort_in_range v) (Some v) None

-- each limit lies above the one before it, the first above `below`, and the last is at most the largest weight
abbrev pub rising : ℕ → List ℕ → Bool
rising below [] = nat_le below most
rising below (p ∷ ps) = nat_lt below p && rising p ps

-- What every sorting recipe keeps: 1 ≤ Z < P1 < … < PN ≤ 999,999.
abbrev pub sort_keeps : SortValues → Bool
sort_keeps v = nat_le 1 v.zone && rising v.zone v.limits

-- what a recipe says, or the first refusal: of a number out of range, then of numbers that do not fit
abbrev pub sort_checked : SortValues → Result SortValues Fault
sort_checked v = cond (sort_in_range v) (cond (sort_keeps v) (Ok v) (Err Inconsistent)) (Err OutOfRange)
