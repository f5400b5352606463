-- The values at the edges of the rules, by the definitions that the calls' contracts cite.
use Rattle.std.specs.Prelude.{◌≡◌, ◌+◌, ◌≤◌, true, false, cond, [], ◌∷◌, ℤ, pos, negsuc, ◌+ℤ◌, Ok, Err, Result, unsigned_abs}
use Rattle.weight.specs.declared.fault.Fault.{Fault}
use Rattle.weight.specs.declared.fault.Fault.TheVariants.{OutOfRange, DriveRefused}
use Rattle.scale.specs.declared.settings.Settings.{Settings}
use Rattle.scale.specs.Conversion.{converted, last_code, settings_in_range}
use Rattle.scale.specs.Kinds.{mean}
use Rattle.board.specs.Outputs.{drive_answer, driven, new_board}
use Rattle.board.specs.Kinds.{transistor_limit}

-- a converter with span 40,000, capacity 20,000 and division 5
abbrev pub example_settings : ℤ → ℤ → Settings
example_settings zero width = record { zero = zero; span = pos 40000; capacity = pos 20000; division = pos 5; width = width }

-- what such a converter shows of its first code, or that it is refused
abbrev pub gross_answer : Settings → ℤ → Result ℤ Fault
gross_answer s code = cond (settings_in_range s) (Ok (converted s code)) (Err OutOfRange)

-- five codes above zero show 5, four show 0 and five below show −5
pub record ConverterEdges (zero width : ℤ) : Type 0 where
  pub five_above : converted (example_settings zero width) (zero +ℤ pos 5) ≡ pos 5
  pub four_above : converted (example_settings zero width) (zero +ℤ pos 4) ≡ pos 0
  pub five_below : converted (example_settings zero width) (zero +ℤ negsuc 4) ≡ negsuc 4

-- the mean of 1 and 2 is shown as 2, and that of −1 and −2 as −2
pub record SmoothingEdges : Type 0 where
  pub above : mean (pos 2 ∷ pos 1 ∷ []) ≡ pos 2
  pub below : mean (negsuc 1 ∷ negsuc 0 ∷ []) ≡ negsuc 1

-- at the transistor board's limit of 2, 06H stands; 07H is refused and trips the board
pub record BoardEdges : Type 0 where
  pub two_accepted : drive_answer (new_board transistor_limit) 6 ≡ Ok tt
  pub two_stand : driven (new_board transistor_limit) 6 ≡ record { standing = 6; tripped = false; limit = 2 }
  pub three_refused : drive_answer (new_board transistor_limit) 7 ≡ Err DriveRefused
  pub three_trip : driven (new_board transistor_limit) 7 ≡ record { standing = 0; tripped = true; limit = 2 }

-- the whole table: the converter's values wherever zero lies, unless the codes beside it are cut, and whatever the width
pub record EdgeValues : Type 0 where
  pub converter : (zero width : ℤ) → unsigned_abs zero + 5 ≤ last_code → ConverterEdges zero width
  pub smoothing : SmoothingEdges
  pub board : BoardEdges
