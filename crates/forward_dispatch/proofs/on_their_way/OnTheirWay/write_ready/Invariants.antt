use Rattle.std.proofs.Common.{◌≡◌, ◌≤◌, length}
use Rattle.std.specs.Prelude.{⊤}
use Rattle.forward_dispatch.specs.OnTheirWay.{LeavesOn}
use Rattle.forward_dispatch.proofs.on_their_way.OnTheirWay.write_ready.Given as goal

-- those that left so far were written whole
abbrev pub invariant-loop : goal.invariant-loop
invariant-loop g l = record {
  leaves : LeavesOn l.fn.self l.self (g.O.Sink.taken l.fn.out) (g.O.Sink.taken l.out) ⊤;
  faults : g.O.Sink.faults l.fn.out ≤ g.O.Sink.faults l.out;
  lasts : g.O.Sink.lasting l.out ≡ g.O.Sink.lasting l.fn.out;
}

abbrev pub decreases-loop : goal.decreases-loop
decreases-loop g l = length l.self.lanes.items
