use Rattle.std.proofs.Common.{ap, ◌∙◌}
use Rattle.scale.specs.declared.converter.Converter.{Converter}
use Rattle.scale.specs.Windows.{last_weights}
use Rattle.weighing.specs.Traces.{latest, smoothed_trace}
use Rattle.weighing.proofs.Traces.{converter_trace_lem}
use Rattle.weighing.proofs.smoothed_converter_shows.Goals as goal

pub returns : goal.returns
returns c =
    let p = c.weigh_smoothed.ensures in
    let d = converter_trace_lem (λ (v : Converter). v.settings) (λ (v : Converter). last_weights v.window) c.args.converter c.requires p.trace in
    p.mean ∙ ap (λ rs. latest (smoothed_trace rs)) d.shown
