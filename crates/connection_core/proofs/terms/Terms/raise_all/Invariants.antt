use Rattle.std.proofs.Common.{◌*◌, take, map}
use Rattle.forest_versions.specs.State.{ControlState}
use Rattle.connection_core.specs.InForce.{registered, IsInForce}
use Rattle.connection_core.specs.Trees.{active_in}
use Rattle.connection_core.specs.PacketUnderWay.{raised}
use Rattle.connection_core.specs.Standing.{Steps, IsAsFar, RiseBy}
use Rattle.builtin_events.specs.Source.{facts_of}
use Rattle.connection_core.proofs.terms.Terms.raise_all.Given as goal

abbrev pub invariant-loop-event : goal.invariant-loop-event
invariant-loop-event g l = record {
  stands : (s : ControlState) → IsInForce l.self.in_force s → Steps l.self.keep (active_in (registered l.self.in_force) l.tree) l.fn.socket l.fn.notes l.fn.ledger l.socket l.notes l.ledger
      (raised (g.A.App.meaning l.self.app.now) s l.phase.number l.phase.from
      (map (λ event. record { hook = l.phase.raising.hook; event = event; facts = facts_of l.phase.raising.source }) (take l.event-index l.phase.raising.events)));
  rise : RiseBy (255 * l.event-index) l.fn.ledger.counts l.ledger.counts;
  as_far : IsAsFar l.fn.socket l.socket;
}
