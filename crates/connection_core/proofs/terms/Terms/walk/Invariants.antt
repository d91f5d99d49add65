use Rattle.std.proofs.Common.{◌+◌, ◌*◌, ◌≤◌, length}
use Rattle.event_trees.specs.Walk.{to_come}
use Rattle.forest_versions.specs.State.{ControlState}
use Rattle.connection_core.specs.InForce.{registered, IsInForce}
use Rattle.connection_core.specs.Trees.{active_in}
use Rattle.connection_core.specs.Standing.{IsAsFar, raise_of}
use Rattle.connection_core.proofs.Callbacks.{CallsLeft}
use Rattle.connection_core.proofs.terms.Terms.walk.Given as goal

abbrev pub invariant-loop-number : goal.invariant-loop-number
invariant-loop-number g l =
    let all = to_come l.defs l.initial.walk in
    let left = to_come l.defs l.walk in record {
      stands : (s : ControlState) → IsInForce l.self.in_force s → CallsLeft (g.A.App.meaning l.self.app.now) s l.self.keep
          (active_in (registered l.self.in_force) l.tree) l.raise_at.number l.raise_at.from (raise_of l.raise_at)
          l.fn.socket l.fn.notes l.fn.ledger all l.socket l.notes l.ledger left;
      callbacks : l.ledger.counts.callbacks + length left ≤ l.fn.ledger.counts.callbacks + length all;
      weight : l.ledger.counts.weight + 288 * length left ≤ l.fn.ledger.counts.weight + 288 * length all;
      as_far : IsAsFar l.fn.socket l.socket;
    }

abbrev pub decreases-loop-number : goal.decreases-loop-number
decreases-loop-number g l = length (to_come l.defs l.walk)
