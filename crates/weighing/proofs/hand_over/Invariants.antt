use Rattle.std.proofs.Common.{take}
use Rattle.weighing.specs.Traces.{Weighed}
use Rattle.weighing.proofs.hand_over.Given as goal

abbrev pub invariant-loop-sample : goal.invariant-loop-sample
invariant-loop-sample g l = Weighed g.S.Scale.shows g.S.Scale.takes l.initial.scale (take l.sample-index l.samples) l.scale
