use Rattle.std.proofs.Common.{◌≡◌, refl, sym, subst}
use Rattle.forest_versions.specs.Master.{Tells}
use Rattle.forest_versions.specs.State.{active}
use Rattle.shared_forest.specs.Listing.{listing}
use Rattle.shared_forest.specs.Lists.{TreeLists}
use Rattle.event_trees.specs.Edit.{IsForestOf}
use Rattle.connection_core.specs.InForce.{registered_at}
use Rattle.connection_core.specs.History.{fresh}
use Rattle.connection_core.specs.Standing.{IsFlow}
use Rattle.connection_core.specs.Trees.{active_in}
use Rattle.lane_core.proofs.records.begin.new_connection.Goals as goal

pub returns-clause-new : goal.returns-clause-new
returns-clause-new g c =
    let m = c.args.master.now in
    let app = g.A.App.meaning c.args.terms.now.app.now in
    let version = c.version-version.ensures.version in
    let tree = g.F.ForestView.content c.args.forests.now c.args.forest in
    let tells : Tells m c.version-version.result m.now = subst (λ v. Tells m v m.now) (sym version) c.tells_the_present.ensures in
    let shown : IsForestOf m.now.defs (active m.now) (listing c.tree_of.result.now) =
    subst (λ (t : TreeLists). IsForestOf m.now.defs (active m.now) (listing t)) (sym c.tree_of.ensures) c.requires.tree in
    let first : active_in (registered_at m c.version-version.result) tree ≡ active m.now =
    subst (λ (t : TreeLists). active_in (registered_at m c.version-version.result) t ≡ active m.now) c.tree_of.ensures
    (c.first_tree_names_the_first_list.ensures.list m.now tells shown) in
    record {
      client = refl;
      version = version;
      count = c.new.ensures.count;
      flow = subst (λ f. IsFlow (registered_at m c.version-version.result) (g.F.ForestView.content c.args.forests.now f) c.new.result (fresh app m.now)) (sym c.new.ensures.forest)
          (c.new.ensures.opened m.now tree tells first app);
    }
