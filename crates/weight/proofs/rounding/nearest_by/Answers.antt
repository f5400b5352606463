-- Rounding brings a number no further from zero, and to the nearest.
use Rattle.std.proofs.Common.{rules}
use Rattle.weight.proofs.Laws.{rounding-le_self, rounding-Nearest}
use Rattle.weight.specs.Rounding.{rounding}
use Rattle.weight.proofs.rounding.nearest_by.Goals as goal

pub returns : goal.returns
unfolding rounding
returns c =
    let b = rounding-le_self c.args.p c.args.q.value c.args.q.ok in
    let n = rounding-Nearest c.args.p c.args.q.value c.args.q.ok in
    record { value = search rules; size = search rules; nearest = search rules }
