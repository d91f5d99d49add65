use Rattle.std.proofs.Common.{◌≡◌, sym, ap, subst, ◌∙◌}
use Rattle.forest_versions.specs.Master.{Tells}
use Rattle.forest_versions.specs.State.{active}
use Rattle.shared_forest.specs.Listing.{listing}
use Rattle.shared_forest.specs.Lists.{TreeLists}
use Rattle.event_trees.specs.Edit.{IsForestOf}
use Rattle.builtin_events.specs.Raised.{raises_of}
use Rattle.connection_core.specs.History.{orphan_history, drops_of}
use Rattle.connection_core.specs.InForce.{registered_at}
use Rattle.connection_core.specs.Standing.{IsNoted}
use Rattle.connection_core.specs.Trees.{active_in, IsForestIn}
use Rattle.lane_core.specs.declared.under_way.RecordUnderWay.{RecordUnderWay}
use Rattle.lane_core.proofs.Noting.{notes_after}
use Rattle.lane_core.proofs.records.begin.orphan_at.Goals as goal

pub orphan-requires-clause-forest : goal.orphan-requires-clause-forest
orphan-requires-clause-forest g c =
    let m = c.args.master.now in
    let content = g.F.ForestView.content c.args.forests.now in
    let tells : Tells m c.version.result m.now = subst (λ v. Tells m v m.now) (sym c.version.ensures.version) c.tells_the_present.ensures in
    let shown : IsForestOf m.now.defs (active m.now) (listing c.tree_of.result.now) =
    subst (λ t. IsForestOf m.now.defs (active m.now) (listing t)) (sym (c.tree_of.ensures ∙ ap content c.forest-forest.ensures)) c.requires.first.tree in
    subst (λ (t : TreeLists). IsForestIn m.now.defs (registered_at m c.version.result) t) c.tree_of.ensures (c.first_tree_names_the_first_list.ensures.forest m.now tells shown)

pub returns-clause-stands : goal.returns-clause-stands
returns-clause-stands g c =
    let m = c.args.master.now in
    let slot = c.args.slot.now in
    let content = g.F.ForestView.content c.args.forests.now in
    let tells : Tells m c.version.result m.now = subst (λ v. Tells m v m.now) (sym c.version.ensures.version) c.tells_the_present.ensures in
    let shown : IsForestOf m.now.defs (active m.now) (listing c.tree_of.result.now) =
    subst (λ t. IsForestOf m.now.defs (active m.now) (listing t)) (sym (c.tree_of.ensures ∙ ap content c.forest-forest.ensures)) c.requires.first.tree in
    let first : active_in (registered_at m c.version.result) (content c.forest-forest.result.now) ≡ active m.now =
    subst (λ (t : TreeLists). active_in (registered_at m c.version.result) t ≡ active m.now) c.tree_of.ensures (c.first_tree_names_the_first_list.ensures.list m.now tells shown) in
    let e = c.in_ok-verdict.ensures in
    let is = c.in_ok-note.ensures.noted in
    let made = orphan_history (g.A.App.meaning c.args.terms.now.app.now) m.now c.args.terms.now.number (raises_of c.args.raised) in
    record {
      name = ap (λ (s : RecordUnderWay). s.name) is;
      kind = ap (λ (s : RecordUnderWay). s.kind) is;
      version = ap (λ (s : RecordUnderWay). s.version) is;
      drops = ap (λ (s : RecordUnderWay). s.drops) is;
      noted = λ others noted. subst (λ n. IsNoted c.args.terms.now.keep others made.tally made.entries n c.orphan.new.ledger.counts)
          (sym (notes_after slot c.note.new.self c.orphan.new.notes (drops_of c.in_ok-verdict.verdict c.args.terms.now.number) is)) (e.stands m.now others tells first noted);
      passes = λ others noted. e.verdict m.now others tells first noted;
      dropped = λ others noted. e.drops m.now others tells first noted;
    }
