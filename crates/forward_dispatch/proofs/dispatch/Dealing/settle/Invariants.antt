use Rattle.std.proofs.Common.{◌≡◌, ◌≤◌, List}
use Rattle.std.specs.Prelude.{⊤}
use Rattle.pcap_source.specs.Captured.{Captured}
use Rattle.lane_worker.specs.declared.worker.Worker.{Worker}
use Rattle.worker_pool.specs.Inputs.{AreInputs}
use Rattle.forward_dispatch.specs.OnTheirWay.{LeavesOn}
use Rattle.forward_dispatch.proofs.dispatch.Dealing.settle.Given as goal

-- nothing was sent, and those that left so far were written whole
abbrev pub invariant-loop : goal.invariant-loop
invariant-loop g l = record {
  inputs : (begins : List (Worker g.row.L.Denot)) (frames : List Captured) → AreInputs g.L.Recorder l.context.script.now begins frames l.fn.self.inputs.items
      → AreInputs g.L.Recorder l.context.script.now begins frames l.self.inputs.items;
  newest : l.self.last ≡ l.fn.self.last;
  leaves : LeavesOn l.fn.self.way l.self.way (g.O.Sink.taken l.fn.out) (g.O.Sink.taken l.out) ⊤;
  faults : g.O.Sink.faults l.fn.out ≤ g.O.Sink.faults l.out;
  lasts : g.O.Sink.lasting l.out ≡ g.O.Sink.lasting l.fn.out;
}
