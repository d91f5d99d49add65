use Rattle.std.proofs.Common.{◌≡◌}
use Rattle.packet_tests.proofs.streams.turns_alike.Given as goal

abbrev pub invariant-loop-turn : goal.invariant-loop-turn
invariant-loop-turn l = l.stream.rbuf ≡ l.rbuf
