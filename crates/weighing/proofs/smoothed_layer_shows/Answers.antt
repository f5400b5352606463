use Rattle.std.proofs.Common.{refl, ap, ◌∙◌}
use Rattle.scale.specs.Windows.{last_weights}
use Rattle.weighing.specs.Traces.{latest, smoothed_trace}
use Rattle.weighing.proofs.Traces.{head_trace_lem, layer_trace}
use Rattle.weighing.proofs.smoothed_layer_shows.Goals as goal

pub returns : goal.returns
returns c =
    let n = c.args.layer in
    let p = c.weigh_smoothed.ensures in
    let d = layer_trace _ _ (λ l. l.below) (λ l. last_weights l.window) n n.below refl c.requires p.trace in
    p.mean ∙ ap (λ rs. latest (smoothed_trace rs)) (d.shown ∙ ap smoothed_trace (head_trace_lem _ _ _ (λ s x t h. h) d.trace))
