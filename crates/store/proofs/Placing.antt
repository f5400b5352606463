-- The records of a ring, one step on, and where each lies.
use Rattle.std.proofs.Common.{◌≡◌, ℕ, ◌+◌, ◌<◌, List, ◌++◌, map, length, take, drop, set, append_assoc, arith, length-append, length-set}
use Rattle.std.proofs.lemmas.List.{take_more_set, drop-set-lt, drop_more, take_all, drop_all, append-nil, length-map, map-append, drop-map}
use Rattle.std.proofs.lemmas.Bool.Decides.{nat_tests}
use Rattle.std.proofs.lemmas.Grind.{common_steps}
use Rattle.store.specs.declared.mark.Mark.{Mark}
use Rattle.store.specs.declared.mark.Mark.TheVariants.{Filling, Full}
use Rattle.store.specs.Kept.{added}
use Rattle.store.specs.Places.{oldest_first, goes_at, written, mark_after}

pub map-added : {X Y : Type 0} (f : X → Y) (n : ℕ) (xs : List X) (x : X) → map f (added n xs x) ≡ added n (map f xs) (f x)
map-added f n xs x = simp (← drop-map, map-append, length-append, length-map)

module _ {X : Type 0} (xs : List X) where
  -- a record put into its slot, whether or not the slots behind it hold records
  more_filling : (next : ℕ) (x : X) → next < length xs → take (next + 1) (set xs next x) ≡ added (length xs) (take next xs) x
  more_filling next x h = grind (arith, common_steps, take_more_set)

  more_full : (next : ℕ) (x : X) → next < length xs → drop (next + 1) (set xs next x) ++ take (next + 1) (set xs next x) ≡ added (length xs) (drop next xs ++ take next xs) x
  more_full next x h = grind (arith, common_steps, take_more_set, drop-set-lt, drop_more xs next x, append_assoc)

  pub oldest_first-put : (m : Mark) (x : X) → goes_at m < length xs → oldest_first (written xs m x) (mark_after (length xs) m) ≡ added (length xs) (oldest_first xs m) x
  oldest_first-put (Filling next) x h = grind (arith, nat_tests, more_filling next x h, take_all, append-nil, length-set)
  oldest_first-put (Full next) x h = grind (arith, nat_tests, more_full next x h, take_all, drop_all, append-nil, length-set)
