-- The rows of a table of totals.
use Rattle.std.specs.Prelude.{List}
use Rattle.totals.specs.declared.row.Row.{Row}
use Rattle.totals.specs.declared.table.Totals.{Totals}
use Rattle.totals.specs.Plain.{plain}

abbrev pub rows_of : Totals → List Row
rows_of t = plain t.rows
