use Rattle.std.proofs.Common.{length, map, ap, ◌∙◌, arith, length-set}
use Rattle.std.proofs.lemmas.Int.{ints}
use Rattle.store.specs.Places.{oldest_first}
use Rattle.store.proofs.Placing.{map-added, oldest_first-put}
use Rattle.store.proofs.slots.put.Goals as goal

pub returns-clause-records : goal.returns-clause-records
returns-clause-records g c =
    let e = oldest_first-put c.args.slots.now c.args.mark c.args.newest c.requires in
    grind (arith, ints, length-set)

pub returns-clause-weights : goal.returns-clause-weights
returns-clause-weights g c =
    let xs = c.args.slots.now in
    ap (map g.T.Record.weighs) (returns-clause-records g c)
    ∙ map-added g.T.Record.weighs (length xs) (oldest_first xs c.args.mark) c.args.newest
