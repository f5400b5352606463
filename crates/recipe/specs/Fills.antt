-- What is asked of a filling recipe's numbers.
use Rattle.std.specs.Prelude.{ℕ, Bool, false, cond, ◌&&◌, List, [], ◌∷◌, Ok, Err, Result, nat_le, slice_index}
use Rattle.weight.specs.Range.{most}
use Rattle.weight.specs.declared.fault.Fault.{Fault}
use Rattle.weight.specs.declared.fault.Fault.TheVariants.{OutOfRange, Inconsistent}
use Rattle.recipe.specs.Ranges.{within, every_up_to, longest}
use Rattle.recipe.specs.declared.draft.Material.{Material}
use Rattle.recipe.specs.declared.draft.FillDraft.{FillDraft}

-- the greatest number of loops
abbrev pub most_loops : ℕ
most_loops = 65535

-- a material's weights go up to the largest weight, and its target starts at the least
abbrev pub material_in_range : ℕ → Material → Bool
material_in_range least m = within m.target least most && within m.coarse_preact 0 most && within m.fine_preact 0 most && within m.tolerance 0 most

-- no time is above the longest, and t0 is at least 1
abbrev pub fill_times_in_range : List ℕ → Bool
fill_times_in_range ts = nat_le 1 (slice_index ts 0) && every_up_to longest ts

-- Each number is in its range: weights, times and loops start at 0, but material 1's target, the zone and t0 at 1.
abbrev pub fill_in_range : FillDraft → Bool
fill_in_range d = material_in_range 1 d.first && material_in_range 0 d.second && within d.zone 1 most && fill_times_in_range d.times && within d.loops 0 most_loops

-- C ≤ b ≤ A and d ≤ A
abbrev pub material_keeps : Material → Bool
material_keeps m = nat_le m.fine_preact m.coarse_preact && nat_le m.coarse_preact m.target && nat_le m.tolerance m.target

-- What every filling recipe keeps.
abbrev pub fill_keeps : FillDraft → Bool
fill_keeps d = material_keeps d.first && material_keeps d.second

-- the draft as a recipe's numbers, or the first refusal: of a number out of range, then of numbers that do not fit
abbrev pub fill_checked : FillDraft → Result FillDraft Fault
fill_checked d = cond (fill_in_range d) (cond (fill_keeps d) (Ok d) (Err Inconsistent)) (Err OutOfRange)

-- a material with only a target
abbrev pub target_alone : ℕ → Material
target_alone n = record { target = n; coarse_preact = 0; fine_preact = 0; tolerance = 0 }

-- The default recipe: each number the least of its range, and all switches off.
abbrev pub default_fill : FillDraft
default_fill = record {
  first = target_alone 1;
  second = target_alone 0;
  zone = 1;
  times = 1 ∷ 0 ∷ 0 ∷ 0 ∷ 0 ∷ 0 ∷ 0 ∷ 0 ∷ [];
  loops = 0;
  top_up = false;
  auto_tare = false;
  feed_permission = false;
  discharge_permission = false;
}
