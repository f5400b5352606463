-- The rows of the totals, one for each class: how many weights were recorded there, and their sum.
use Rattle.std.specs.Prelude.{ℕ, ◌+◌, ◌*◌, Bool, cond, not, ◌&&◌, List, replicate, ℤ, pos, ◌+ℤ◌, ◌≤ℤ◌, Some, None, fold, sum_by, Option, ◌==◌, int_le, nat_lt, slice_index_or, slice_set}
use Rattle.weight.specs.Range.{most}
use Rattle.totals.specs.declared.row.Row.{Row}

-- the number of classes: class 0 is fills, and class n is channel n
abbrev pub classes : ℕ
classes = 8

-- the overall count at which the totals are full
abbrev pub full_count : ℕ
full_count = 999999

abbrev pub row : ℕ → ℤ → Row
row n w = record { count = n; weight = w }

-- two rows together
abbrev pub row_sum : Row → Row → Row
row_sum a b = row (a.count + b.count) (a.weight +ℤ b.weight)

-- nothing in any class
abbrev pub no_rows : List Row
no_rows = replicate classes (row 0 (pos 0))

-- the row of a class
abbrev pub row_of : List Row → ℕ → Row
row_of rows class = slice_index_or rows class (row 0 (pos 0))

-- the same, or none where the class is not there
abbrev pub row_answer : List Row → ℕ → Option Row
row_answer rows class = cond (nat_lt class classes) (Some (row_of rows class)) None

-- the figures over all classes
abbrev pub overall_count : List Row → ℕ
overall_count rows = sum_by (λ r. r.count) rows

abbrev pub overall_weight : List Row → ℤ
overall_weight rows = fold (λ a r. a +ℤ r.weight) (pos 0) rows

abbrev pub overall_of : List Row → Row
overall_of rows = row (overall_count rows) (overall_weight rows)

abbrev pub is_full : List Row → Bool
is_full rows = overall_count rows == full_count

-- one weight more in a row
abbrev pub raised : Row → ℤ → Row
raised r w = row_sum r (row 1 w)

-- a weight that can be counted lies from 0 to 999,999
abbrev pub is_recordable : ℤ → Bool
is_recordable w = int_le (pos 0) w && int_le w (pos most)

-- whether the totals can count a weight in a class: the class is there, they are not full, and the weight can be counted
abbrev pub can_record : List Row → ℕ → ℤ → Bool
can_record rows class w = nat_lt class classes && not (is_full rows) && is_recordable w

-- one weight more in a class, where it can be counted; every other row stays
abbrev pub recorded : List Row → ℕ → ℤ → List Row
recorded rows class w = cond (can_record rows class w) (slice_set rows class (raised (row_of rows class) w)) rows

-- no weight that is counted is below 0, so no row is
abbrev pub NotBelowZero : Row → Type 0
NotBelowZero r = pos 0 ≤ℤ r.weight

-- nor is one above the largest weight, so no row weighs more than that for each of its records
abbrev pub NotTooHeavy : Row → Type 0
NotTooHeavy r = r.weight ≤ℤ pos (most * r.count)
