use Rattle.std.proofs.Common.{◌<◌, length, pos, ap, arith}
use Rattle.std.proofs.lemmas.List.Sums.{sum_by_more_le}
use Rattle.totals.specs.declared.row.Row.{Row}
use Rattle.totals.specs.Plain.{plain}
use Rattle.totals.specs.Rows.{row}
use Rattle.totals.proofs.PlainSteps.{length_plain, row_plain}
use Rattle.totals.proofs.table.Totals.overall.Goals as goal

pub join-sum-requires : goal.join-sum-requires
join-sum-requires c =
    let t = c.args.self.now in
    let i = c.loop-row.row-index in
    let here : i < length (plain t.rows) = omega (arith, length_plain t.rows) in
    let upto = sum_by_more_le (λ (r : Row). r.count) (plain t.rows) i (row 0 (pos 0)) here in
    let is = row_plain t.rows i c.row-item.result (omega arith) in
    omega (arith, upto, ap (λ (r : Row). r.count) is, ap (λ (r : Row). r.count) c.loop-row.invariant, t.few)
