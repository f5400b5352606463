-- What the list of plain rows shows of the recorded ones.
use Rattle.std.proofs.Common.{◌≡◌, ℕ, zero, suc, ◌<◌, List, [], ◌∷◌, length, get_or, set}
use Rattle.std.proofs.lemmas.Bool.Decides.{nat_tests}
use Rattle.std.proofs.lemmas.Grind.{common_steps}
use Rattle.std.proofs.lemmas.List.{map-set, get_or-map, length-map}
use Rattle.totals.specs.declared.row.RecordedRow.{RecordedRow}
use Rattle.totals.specs.declared.row.Row.{Row}
use Rattle.totals.specs.Plain.{plain}
use Rattle.totals.specs.Rows.{row_of}

pub length_plain : (rows : List RecordedRow) → length (plain rows) ≡ length rows
length_plain rows = length-map rows (λ (r : RecordedRow). r.row)

pub plain_set : (rows : List RecordedRow) (i : ℕ) (r : RecordedRow) → plain (set rows i r) ≡ set (plain rows) i r.row
plain_set rows i r = map-set (λ (x : RecordedRow). x.row) rows i r

pub row_plain : (rows : List RecordedRow) (i : ℕ) (d : RecordedRow) → i < length rows → row_of (plain rows) i ≡ (get_or rows i d).row
row_plain rows i d h = get_or-map (λ (x : RecordedRow). x.row) rows i d _ h

-- the usual steps, and these
pub ruleset plain_steps = (common_steps, nat_tests, length_plain, plain_set, row_plain)

-- what holds of each row holds after a write of one for which it holds too
pub each_set : (P : Row → Type 0) (rows : List RecordedRow) (i : ℕ) (r : RecordedRow) → ((k : ℕ) → P (row_of (plain rows) k)) → P r.row → (k : ℕ) → P (row_of (plain (set rows i r)) k)
each_set P [] i r all p k = all k
each_set P (x ∷ xs) zero r all p zero = p
each_set P (x ∷ xs) zero r all p (suc k) = all (suc k)
each_set P (x ∷ xs) (suc i) r all p zero = all zero
each_set P (x ∷ xs) (suc i) r all p (suc k) = each_set P xs i r (λ j. all (suc j)) p k
