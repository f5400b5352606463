-- What an output board is, and what each call leaves of it.
use Rattle.std.specs.Prelude.{ℕ, Bool, true, false, cond, not, ◌&&◌, ◌||◌, Ok, Err, Result, ◌==◌, count_ones, nat_lt}
use Rattle.weight.specs.declared.fault.Fault.{Fault}
use Rattle.weight.specs.declared.fault.Fault.TheVariants.{DriveRefused}

-- The byte that stands (bit n is output n), whether the board is tripped, and how many outputs may be on at a time.
pub record Outputs : Type 0 where
  pub standing : ℕ
  pub tripped : Bool
  pub limit : ℕ

-- 0 is never refused. Another byte is refused where the board is tripped, or where the byte has more ones than the limit.
abbrev pub refused_at : Bool → ℕ → ℕ → Bool
refused_at tripped limit b = not (b == 0) && (tripped || nat_lt limit (count_ones b))

-- Whether the board refuses the byte. Shut, so that what is built on a board sees one test and not its parts.
unfoldable pub refuses : Outputs → ℕ → Bool
refuses o b = refused_at o.tripped o.limit b

-- After driving: a refused byte leaves 0 and the tripped mark, another one stands and leaves the mark as it was.
abbrev pub driven : Outputs → ℕ → Outputs
driven o b = record {
  standing = cond (refuses o b) 0 b;
  tripped = cond (refuses o b) true o.tripped;
  limit = o.limit;
}

-- What driving answers: a refusal exactly where the board refuses the byte.
abbrev pub drive_answer : Outputs → ℕ → Result (Unit {0}) Fault
drive_answer o b = cond (refuses o b) (Err DriveRefused) (Ok tt)

-- A trip leaves 0 and the mark.
abbrev pub after_trip : Outputs → Outputs
after_trip o = record { standing = 0; tripped = true; limit = o.limit }

-- A reset leaves 0 and no mark.
abbrev pub after_reset : Outputs → Outputs
after_reset o = record { standing = 0; tripped = false; limit = o.limit }

-- A new board with that limit: 0 stands, and it is not tripped.
abbrev pub new_board : ℕ → Outputs
new_board n = record { standing = 0; tripped = false; limit = n }
