use Rattle.std.proofs.Common.{◌≡◌, ℕ, ◌<◌, length, false, slice_index_or}
use Rattle.board.specs.Relays.{bit}
use Rattle.board.proofs.relay.RelaysFromU8.from.Given as goal

abbrev pub invariant-loop-n : goal.invariant-loop-n
invariant-loop-n l = record {
  whole : length l.on-items ≡ 8;
  set : (k : ℕ) → k < l.n → slice_index_or l.on-items k false ≡ bit l.byte k;
}
