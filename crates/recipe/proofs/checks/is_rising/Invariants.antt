use Rattle.std.proofs.Common.{◌≡◌, drop}
use Rattle.recipe.specs.Sorts.{rising}
use Rattle.recipe.proofs.checks.is_rising.Given as goal

-- what is left decides, from the last limit on
abbrev pub invariant-loop-p : goal.invariant-loop-p
invariant-loop-p l = rising l.last (drop l.p-index l.limits) ≡ rising l.below l.limits
