use Rattle.std.proofs.Common.{◌≡◌, ◌<◌, ◌^◌}
use Rattle.board.proofs.EachRelay.{byte_of_first}
use Rattle.board.proofs.relay.U8FromRelays.from.Given as goal

abbrev pub invariant-loop-n : goal.invariant-loop-n
invariant-loop-n l = record {
  made : l.byte ≡ byte_of_first l.on-items l.n;
  fits : l.byte < 2 ^ l.n;
}
