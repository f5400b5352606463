use Rattle.std.proofs.Common.{◌<◌, length, length-set, pos, ap, arith}
use Rattle.std.proofs.lemmas.Bool.Decides.{nat_tests}
use Rattle.std.proofs.lemmas.List.Sums.{sum_by-set}
use Rattle.totals.specs.declared.row.Row.{Row}
use Rattle.totals.specs.Plain.{plain}
use Rattle.totals.specs.Rows.{row, overall_count, full_count, NotBelowZero, NotTooHeavy}
use Rattle.totals.proofs.PlainSteps.{plain_set, row_plain, length_plain, each_set}
use Rattle.totals.proofs.table.Totals.raise.Goals as goal

pub invariant_of-self : goal.invariant_of-self
invariant_of-self c =
    let t = c.args.self.now in
    let i = c.from.result in
    let r = c.raise.new.self in
    let room : overall_count (plain t.rows) < full_count = grind (arith, nat_tests) in
    let n : i < length t.rows = grind (arith, nat_tests) in
    let here : i < length (plain t.rows) = omega (arith, length_plain t.rows) in
    let more = sum_by-set (λ (x : Row). x.count) (plain t.rows) i r.row (row 0 (pos 0)) here in
    let was = ap (λ (x : Row). x.count) (row_plain t.rows i c.index-rows-from.result n) in
    record {
      sized = simp length-set t.sized;
      few = rw (plain_set t.rows i r) (omega (arith, room, more, was, ap (λ (x : Row). x.count) c.raise.ensures));
      low = each_set NotBelowZero t.rows i r t.low r.low;
      high = each_set NotTooHeavy t.rows i r t.high r.high;
    }
