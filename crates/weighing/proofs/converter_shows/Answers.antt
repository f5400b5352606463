use Rattle.std.proofs.Common.{ap, ◌∙◌}
use Rattle.scale.specs.declared.converter.Converter.{Converter}
use Rattle.scale.specs.Windows.{last_weights}
use Rattle.scale.specs.Kinds.{converter_shows}
use Rattle.weighing.specs.Traces.{latest}
use Rattle.weighing.proofs.Traces.{converter_trace_lem, shows_latest}
use Rattle.weighing.proofs.converter_shows.Goals as goal

pub returns : goal.returns
returns c =
    let n = c.args.converter in
    let p = c.weigh_by.ensures in
    let none = ap (λ ws. converter_shows n.settings ws) c.requires in
    let d = converter_trace_lem (λ (v : Converter). v.settings) (λ (v : Converter). last_weights v.window) n c.requires p.trace in
    p.last ∙ shows_latest _ _ n none p.trace ∙ ap latest d.shown
