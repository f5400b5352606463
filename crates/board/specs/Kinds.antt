-- What each kind of board has: the byte that its switches make, its mark, and its limit.
use Rattle.std.specs.Prelude.{ℕ, is_none}
use Rattle.std.specs.Option.{option_map_or}
use Rattle.board.specs.Outputs.{Outputs}
use Rattle.board.specs.Relays.{byte_of}
use Rattle.board.specs.declared.output.OutputBoard.{OutputBoard}
use Rattle.board.specs.declared.transistor.Transistors.{Transistors}
use Rattle.board.specs.declared.relay.Relays.{Relays}

-- What a board has whose switches make a byte by this function: a board without switches is tripped, and has 0 standing.
abbrev pub outputs_of : {S : Type 0} → (S → ℕ) → ℕ → OutputBoard S → Outputs
outputs_of switches_byte limit b = record {
  standing = option_map_or switches_byte b.switches 0;
  tripped = is_none b.switches;
  limit = limit;
}

-- How many outputs of each kind of board may be on at a time.
abbrev pub transistor_limit : ℕ
transistor_limit = 2

abbrev pub relay_limit : ℕ
relay_limit = 8

-- The byte that the switches make.
abbrev pub transistors_byte : Transistors → ℕ
transistors_byte t = t.0

abbrev pub relays_byte : Relays → ℕ
relays_byte r = byte_of r.0
