use Rattle.std.proofs.Common.{◌≡◌, replicate, None, ◌≤◌}
use Rattle.std.specs.VecDeque.{deque_len, deque_capacity}
use Rattle.lane_rings.proofs.resequencer.free_window.Given as goal

abbrev pub invariant-loop : goal.invariant-loop
invariant-loop l = record {
  free : l.window.items ≡ replicate l.counter None;
  filled : deque_len l.window ≡ l.counter;
  room : l.limit ≤ deque_capacity l.window;
}
