use Rattle.std.proofs.Common.{◌≡◌, ◌*◌, ◌≤◌, take, pos, ◌+ℤ◌, nat_abs, fold}
use Rattle.weight.specs.Range.{most}
use Rattle.scale.specs.Windows.{last_weights}
use Rattle.scale.proofs.window.Window.total.Given as goal

abbrev pub invariant-loop-w : goal.invariant-loop-w
invariant-loop-w g l = (l.sum ≡ fold ◌+ℤ◌ (pos 0) (take l.w-index (last_weights l.self))) × (nat_abs l.sum ≤ most * l.w-index)
