-- What a window keeps of the weights that came.
use Rattle.std.specs.Prelude.{ℕ, List, ℤ}
use Rattle.scale.specs.declared.window.Window.{Window}

-- the last weights, newest first
abbrev pub last_weights : {K : ℕ} → Window K → List ℤ
last_weights v = v.weights.items
