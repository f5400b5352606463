use Rattle.std.proofs.Common.{false, [], ◌∷◌, pos}
use Rattle.weighing.specs.Traces.{start, next}
use Rattle.weighing.proofs.Traces.{reverse_more}
use Rattle.weighing.proofs.hand_over.Goals as goal

pub loop-sample-init : goal.loop-sample-init
loop-sample-init g c = ([], start)

pub loop-sample-preserved : goal.loop-sample-preserved
loop-sample-preserved g c =
    let l = c.loop-sample in
    (g.S.Scale.shows c.sample.new.self ∷ l.invariant.0, rw (reverse_more c.args.samples.now l.sample-index (record { value = pos 0; steady = false }) c.loop-sample-test.true) (next _ l.invariant.0 l.scale _ c.sample.new.self l.invariant.1 c.sample.ensures))
