-- The bytes at the positions so far.
use Rattle.std.proofs.Common.{◌≡◌, ◌+◌, ◌++◌, length, map}
use Rattle.std.specs.List.{range_with_len}
use Rattle.capture_maker.specs.Table.{byte_of}
use Rattle.capture_maker.proofs.record.put_payload.Given as goal

abbrev pub invariant-loop-i : goal.invariant-loop-i
invariant-loop-i l = record {
  bytes : l.piece ≡ l.fn.piece ++ map (byte_of l.segment.sender l.connection) (range_with_len l.segment.first l.i);
  len : length l.piece ≡ length l.fn.piece + l.i;
}
