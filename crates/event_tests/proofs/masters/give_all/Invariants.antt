use Rattle.shared_forest.specs.Listing.{listing}
use Rattle.shared_forest.specs.Rows.{HasRow, tree_at}
use Rattle.event_trees.specs.Edit.{IsForestOf}
use Rattle.forest_versions.specs.State.{active}
use Rattle.event_tests.proofs.masters.give_all.Given as goal

abbrev pub invariant-loop-place : goal.invariant-loop-place
invariant-loop-place l = record {
  answered : HasRow l.table l.master.forest;
  forest : IsForestOf l.master.now.defs (active l.master.now) (listing (tree_at l.table l.master.forest));
}
