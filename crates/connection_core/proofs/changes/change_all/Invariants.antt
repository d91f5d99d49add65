use Rattle.std.proofs.Common.{take}
use Rattle.forest_versions.specs.State.{ControlState}
use Rattle.connection_core.specs.InForce.{registered, IsInForce}
use Rattle.connection_core.specs.PacketUnderWay.{changed_all}
use Rattle.connection_core.specs.Trees.{active_in}
use Rattle.connection_core.specs.Standing.{Alters}
use Rattle.connection_core.specs.Calls.{StaysHeld}
use Rattle.connection_core.proofs.changes.change_all.Given as goal

abbrev pub invariant-loop-asked : goal.invariant-loop-asked
invariant-loop-asked g l = record {
  stays : StaysHeld g.F.ForestView l.in_force l.fn.forests l.forests l.forest;
  made : (s : ControlState) → IsInForce l.in_force s → Alters (active_in (registered l.in_force) (g.F.ForestView.content l.fn.forests l.fn.forest))
      (active_in (registered l.in_force) (g.F.ForestView.content l.forests l.forest))
      (g.F.ForestView.interns l.fn.forests) (g.F.ForestView.interns l.forests) (changed_all s (take l.asked-index l.changes));
}
