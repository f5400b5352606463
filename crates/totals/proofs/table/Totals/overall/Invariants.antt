use Rattle.std.proofs.Common.{◌≡◌, take}
use Rattle.totals.specs.Plain.{plain}
use Rattle.totals.specs.Rows.{overall_of}
use Rattle.totals.proofs.table.Totals.overall.Given as goal

abbrev pub invariant-loop-row : goal.invariant-loop-row
invariant-loop-row l = l.sum.row ≡ overall_of (take l.row-index (plain l.self.rows))
