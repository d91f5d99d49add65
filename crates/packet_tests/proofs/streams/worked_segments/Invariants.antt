use Rattle.std.proofs.Common.{◌≡◌}
use Rattle.packet_tests.proofs.streams.worked_segments.Given as goal

abbrev pub invariant-loop-name : goal.invariant-loop-name
invariant-loop-name g l = l.stream.rbuf ≡ 8
