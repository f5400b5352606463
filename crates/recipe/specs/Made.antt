-- How recipes come from drafts.
use Rattle.std.specs.Prelude.{◌≡◌, Ok, Err, Result}
use Rattle.weight.specs.declared.fault.Fault.{Fault}
use Rattle.recipe.specs.declared.draft.FillDraft.{FillDraft}
use Rattle.recipe.specs.declared.fill.FillRecipe.{FillRecipe}
use Rattle.recipe.specs.declared.sort.SortRecipe.{SortRecipe}
use Rattle.recipe.specs.Fills.{fill_checked}
use Rattle.recipe.specs.Sorts.{SortDraft, SortValues, sort_checked, draft_values, numbers_values, HeldInPlace}

abbrev pub fill_numbers : Result FillRecipe Fault → Result FillDraft Fault
fill_numbers (Ok r) = Ok r.numbers
fill_numbers (Err f) = Err f

-- The recipe has exactly the draft's numbers, or it is the draft's refusal.
abbrev pub FillMade : FillDraft → Result FillRecipe Fault → Type 0
FillMade d r = fill_numbers r ≡ fill_checked d

-- what a sorting recipe says
abbrev pub sort_values : SortRecipe → SortValues
sort_values r = numbers_values r.numbers

abbrev pub sort_result : Result SortRecipe Fault → Result SortValues Fault
sort_result (Ok r) = Ok (sort_values r)
sort_result (Err f) = Err f

-- the recipe holds the draft's limits in place
abbrev pub SortHeld : SortDraft → Result SortRecipe Fault → Type 0
SortHeld d (Ok r) = HeldInPlace d.limits.now r.numbers.limits
SortHeld d (Err f) = Unit {0}

-- The recipe says exactly what the draft says, and holds nothing else; or it is the draft's refusal.
pub record SortMade (d : SortDraft) (r : Result SortRecipe Fault) : Type 0 where
  pub says : sort_result r ≡ sort_checked (draft_values d)
  pub holds : SortHeld d r
