-- Where the records of a ring lie in its slots.
use Rattle.std.specs.Prelude.{ℕ, ◌+◌, ◌-◌, cond, List, ◌++◌, take, drop, nat_lt, slice_set}
use Rattle.store.specs.declared.mark.Mark.{Mark}
use Rattle.store.specs.declared.mark.Mark.TheVariants.{Filling, Full}

-- the records, oldest first: where every slot holds one, those that are not yet written over, and then those written
-- since the ring went back to the first slot
abbrev pub oldest_first : {X : Type 0} → List X → Mark → List X
oldest_first slots (Filling next) = take next slots
oldest_first slots (Full next) = drop next slots ++ take next slots

-- The slot that the next record goes to,
abbrev pub goes_at : Mark → ℕ
goes_at (Filling next) = next
goes_at (Full next) = next

-- the slots once it has gone there: no other slot is written,
abbrev pub written : {X : Type 0} → List X → Mark → X → List X
written slots m x = slice_set slots (goes_at m) x

-- over n slots the mark after it,
abbrev pub mark_after : ℕ → Mark → Mark
mark_after n (Filling next) = cond (nat_lt (next + 1) n) (Filling (next + 1)) (Full 0)
mark_after n (Full next) = cond (nat_lt (next + 1) n) (Full (next + 1)) (Full 0)

-- how many records are kept,
abbrev pub count_of : ℕ → Mark → ℕ
count_of n (Filling next) = next
count_of n (Full next) = n

-- and the slot of the record at a position.
abbrev pub lies_at : ℕ → Mark → ℕ → ℕ
lies_at n (Filling next) i = i
lies_at n (Full next) i = cond (nat_lt i (n - next)) (next + i) (i - (n - next))
