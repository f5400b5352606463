use Rattle.std.proofs.Common.{rules}
use Rattle.scale.specs.Windows.{last_weights}
use Rattle.scale.specs.Means.{mean_ranged}
use Rattle.scale.proofs.smoothing.mean_of.Goals as goal

pub returns-in-Some : goal.returns-in-Some
returns-in-Some c =
    let w = c.args.window.now in
    let b = mean_ranged (last_weights w) w.ranged in
    record { value = search rules; range = search rules }
