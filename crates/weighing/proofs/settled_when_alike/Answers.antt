use Rattle.weighing.proofs.Settling.{settled_when_alike}
use Rattle.weighing.proofs.settled_when_alike.Goals as goal

pub returns : goal.returns
returns c = settled_when_alike
