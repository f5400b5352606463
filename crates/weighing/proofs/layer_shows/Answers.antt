use Rattle.std.proofs.Common.{ap, ◌∙◌}
use Rattle.scale.specs.Windows.{last_weights}
use Rattle.scale.specs.Kinds.{smoothing_shows}
use Rattle.weighing.specs.Traces.{latest}
use Rattle.weighing.proofs.Traces.{layer_trace, shows_latest}
use Rattle.weighing.proofs.layer_shows.Goals as goal

pub returns : goal.returns
returns g c b is =
    let n = c.args.layer in
    let p = c.weigh_by.ensures in
    let none = ap (λ ws. smoothing_shows ws (g.S.Scale.shows n.below)) c.requires in
    let d = layer_trace g.S.Scale.shows g.S.Scale.takes (λ l. l.below) (λ l. last_weights l.window) n b is c.requires p.trace in
    record { readings = d.readings; left = p.left.below; trace = d.trace; mean = p.last ∙ shows_latest _ _ n none p.trace ∙ ap latest d.shown }
