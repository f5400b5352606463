-- The numbers and the names of the refusals.
use Rattle.std.specs.Prelude.{ℕ, List, ◌++◌, codes}
use Rattle.std.specs.Fmt.{decimal}
use Rattle.weight.specs.declared.fault.Fault.{Fault}
use Rattle.weight.specs.declared.fault.Fault.TheVariants.{OutOfRange, Inconsistent, NotAtRest, NoRecipe, BadAddress, TotalsFull, AtRest, DriveRefused, NoPlaces, FrameLength, FrameEnds, FrameCheck, OtherAddress, BadCommand, ReplyRoom}

abbrev pub number_of : Fault → ℕ
number_of OutOfRange = 1
number_of Inconsistent = 2
number_of NotAtRest = 3
number_of NoRecipe = 4
number_of BadAddress = 5
number_of TotalsFull = 6
number_of AtRest = 7
number_of DriveRefused = 8
number_of NoPlaces = 9
number_of FrameLength = 10
number_of FrameEnds = 11
number_of FrameCheck = 12
number_of OtherAddress = 13
number_of BadCommand = 14
number_of ReplyRoom = 15

abbrev pub name_of : Fault → List ℕ
name_of OutOfRange = codes "OutOfRange"
name_of Inconsistent = codes "Inconsistent"
name_of NotAtRest = codes "NotAtRest"
name_of NoRecipe = codes "NoRecipe"
name_of BadAddress = codes "BadAddress"
name_of TotalsFull = codes "TotalsFull"
name_of AtRest = codes "AtRest"
name_of DriveRefused = codes "DriveRefused"
name_of NoPlaces = codes "NoPlaces"
name_of FrameLength = codes "FrameLength"
name_of FrameEnds = codes "FrameEnds"
name_of FrameCheck = codes "FrameCheck"
name_of OtherAddress = codes "OtherAddress"
name_of BadCommand = codes "BadCommand"
name_of ReplyRoom = codes "ReplyRoom"

-- how a refusal is printed
abbrev pub text_of : Fault → List ℕ
text_of f = codes "fault " ++ decimal (number_of f) ++ codes ": " ++ name_of f
