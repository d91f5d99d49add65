use Rattle.std.proofs.Common.{◌≡◌, ◌∙◌, sym, ap, subst}
use Rattle.shared_forest.specs.Lists.{TreeLists}
use Rattle.shared_forest.specs.Listing.{listing}
use Rattle.shared_forest.specs.Rows.{tree_at}
use Rattle.event_trees.specs.Edit.{IsForestOf}
use Rattle.forest_versions.specs.State.{active}
use Rattle.forest_versions.specs.Master.{Tells}
use Rattle.connection_core.specs.InForce.{registered, defs_at}
use Rattle.connection_core.specs.Trees.{IsForestIn}
use Rattle.event_tests.proofs.connections.opened.Goals as goal

pub returns-clause-forest : goal.returns-clause-forest
returns-clause-forest c =
    let lent = c.args.lent.now in
    let m = lent.master.now in
    let after = c.again.new.self in
    let tells : Tells m lent.version m.now = subst (λ v. Tells m v m.now) (sym c.requires.present) c.tells_the_present.ensures in
    let same : c.tree_of.result.now ≡ tree_at c.args.table.now m.forest =
    c.tree_of.ensures ∙ c.in_ok-forest.ensures.content ∙ ap (tree_at c.args.table.now) c.forest.ensures in
    let forest : IsForestOf m.now.defs (active m.now) (listing c.tree_of.result.now) =
    subst (λ (t : TreeLists). IsForestOf m.now.defs (active m.now) (listing t)) (sym same) c.requires.forest in
    subst (λ (t : TreeLists). IsForestIn (defs_at lent) (registered lent) t) (c.tree_of.ensures ∙ ap (tree_at after) (sym c.new.ensures.forest))
    (c.first_tree_names_the_first_list.ensures.forest m.now tells forest)
