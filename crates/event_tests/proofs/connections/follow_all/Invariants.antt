use Rattle.shared_forest.specs.Rows.{HasRow, tree_at}
use Rattle.connection_core.specs.InForce.{registered, defs_at}
use Rattle.connection_core.specs.Trees.{IsForestIn}
use Rattle.event_tests.proofs.connections.follow_all.Given as goal

abbrev pub invariant-loop-packet : goal.invariant-loop-packet
invariant-loop-packet g l = record {
  answered : HasRow l.table l.played.flow.forest;
  forest : IsForestIn (defs_at l.terms.in_force) (registered l.terms.in_force) (tree_at l.table l.played.flow.forest);
}
