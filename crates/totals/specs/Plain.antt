-- Recorded rows as plain ones.
use Rattle.std.specs.Prelude.{List, map}
use Rattle.totals.specs.declared.row.Row.{Row}
use Rattle.totals.specs.declared.row.RecordedRow.{RecordedRow}

abbrev pub plain : List RecordedRow → List Row
plain rows = map (λ (r : RecordedRow). r.row) rows
