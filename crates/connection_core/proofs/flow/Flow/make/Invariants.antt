use Rattle.std.proofs.Common.{◌≡◌, ◌*◌, [], take, map}
use Rattle.shared_forest.specs.Store.{Keeps}
use Rattle.forest_versions.specs.State.{ControlState}
use Rattle.connection_core.specs.InForce.{registered, IsInForce}
use Rattle.connection_core.specs.PacketUnderWay.{phase}
use Rattle.connection_core.specs.Trees.{active_in}
use Rattle.connection_core.specs.Standing.{RiseBy, Makes}
use Rattle.connection_core.specs.Calls.{IsHeld}
use Rattle.builtin_events.specs.Source.{facts_of}
use Rattle.connection_core.proofs.flow.Flow.make.Given as goal

abbrev pub invariant-loop-event : goal.invariant-loop-event
invariant-loop-event g l =
    let at = registered l.terms.in_force in
    let content = g.F.ForestView.content in
    let interns = g.F.ForestView.interns in record {
      held : IsHeld g.F.ForestView l.terms.in_force l.forests l.self.forest;
      kept : Keeps g.F.ForestView.answered content l.fn.forests l.forests;
      made : (s : ControlState) → IsInForce l.terms.in_force s → Makes l.terms.keep
          (active_in at (content l.fn.forests l.fn.self.forest)) l.fn.self.socket l.fn.notes l.fn.ledger (interns l.fn.forests)
          (active_in at (content l.forests l.self.forest)) l.self.socket l.notes l.ledger (interns l.forests)
          (phase (g.A.App.meaning l.terms.app.now) s l.phase.number l.phase.from
          (map (λ event. record { hook = l.phase.raising.hook; event = event; facts = facts_of l.phase.raising.source }) (take l.event-index l.phase.raising.events)));
      rise : RiseBy (255 * l.event-index) l.fn.ledger.counts l.ledger.counts;
      asked : l.ledger.changes.items ≡ [];
      count : l.self.count ≡ l.fn.self.count;
    }
